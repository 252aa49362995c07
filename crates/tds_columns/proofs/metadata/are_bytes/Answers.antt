use Rattle.std.proofs.Common.{◌<◌, ℕ, suc, List, [], ◌∷◌, slice_index}
use Rattle.tds_packet.specs.Elements.{AreBytes}

each : (xs : List ℕ) → ((i : ℕ) → slice_index xs i < 256) → AreBytes xs
each [] h = tt
each (x ∷ xs) h = (h 0, each xs (λ i. h (suc i)))

pub returns : Rattle.tds_columns.proofs.metadata.are_bytes.Goals.returns
returns c = each _ (λ i. (c.type_inv.bytes i).fits)
