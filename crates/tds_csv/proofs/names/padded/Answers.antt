use Rattle.tds_csv.proofs as N
use N.names.padded.Goals as goal
use N.{ℕ, ◌≡◌, ◌-◌, ◌<◌, drop}
use N.PaddedUnits.{one_word, two_words}
use Rattle.std.specs.Prelude.{slice_index}
use goal.{then-units-le-WORD, else-units-le-WORD}

pub returns : goal.returns
returns c =
    let units = c.args.units.now in
    let bytes : (i : ℕ) → slice_index units i < 256 = λ i. (c.type_inv.units i).fits in
    elim c.if-units-le-WORD.branch [
      | then-units-le-WORD w ↦ rw w.words-is (one_word units bytes w.if-units-le-WORD.true w.four_units.ensures)
      | else-units-le-WORD w ↦
          let rest : N.take (N.length units - 8) (drop 8 units) ≡ drop 8 units = N.take_all _ _ (omega (N.arith, N.length-drop 8 units)) in
          let high = rw rest at w.four_units-else-units-le-WORD.ensures in
          rw w.words-is (two_words units bytes (omega N.arith) c.requires.few w.read_u64.ensures high)
    ]
