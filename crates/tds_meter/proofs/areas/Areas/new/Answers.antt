use Rattle.tds_meter.proofs as N
use N.{◌≡◌, ◌∙◌}
use Rattle.std.proofs.Common.{ℕ, ◌&&◌, ◌==◌, IsTrue, eq-eqb}

-- six rooms are as they are to be
six_rooms : (a b c d e f p q r s t u : ℕ) → a ≡ p → b ≡ q → c ≡ r → d ≡ s → e ≡ t → f ≡ u
    → IsTrue (a == p && b == q && c == r && d == s && e == t && f == u)
six_rooms a b c d e f p q r s t u ha hb hc hd he hf = rw (
  eq-eqb a p ha,
  eq-eqb b q hb,
  eq-eqb c r hc,
  eq-eqb d s hd,
  eq-eqb e t he,
  eq-eqb f u hf,
) N.refl

pub returns-clause-intact : N.areas.Areas.new.Goals.returns-clause-intact
returns-clause-intact c =
    let room = λ (s : N.Space). s.room in
    six_rooms _ _ _ _ _ _ _ _ _ _ _ _
    (N.ap room c.in_ok-new.ensures ∙ c.from.ensures ∙ c.packet_size.ensures) (N.ap room c.in_ok-new-2.ensures ∙ c.column_room.ensures)
    (N.ap room c.in_ok-new-3.ensures) (N.ap room c.in_ok-new-4.ensures) (N.ap room c.in_ok-new-5.ensures) (N.ap room c.in_ok-new-6.ensures)
