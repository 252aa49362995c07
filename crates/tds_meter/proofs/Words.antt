-- The words that the proofs of this crate share.
pub use Rattle.std.proofs.Common.{List, ap, append-nil, arith, drop, length, length-drop, length-take-le, refl, rules, subst, sym, take, vec_len, zero-add, ℕ}
pub use Rattle.std.proofs.Common.{◌++◌}
pub use Rattle.std.proofs.Common.{◌+◌, ◌-◌, ◌∙◌, ◌≡◌, ◌≤◌}
pub use Rattle.std.proofs.Math.ListN.{drop_of_length-le}
pub use Rattle.std.proofs.Math.Seq.{drop-append_seam, take-add, take-append_seam}
pub use Rattle.std.proofs.lemmas.List.Edits.{take-paste}
pub use Rattle.std.proofs.lemmas.List.{drop-take, take-append-le, take-take, take_all}
pub use Rattle.std.specs.List.{copy_within, refill}
pub use Rattle.tds_meter.specs.Lent.{overwritten, with_tail}
pub use Rattle.tds_meter.specs.Space.{Grows, Space, appended, holding}
