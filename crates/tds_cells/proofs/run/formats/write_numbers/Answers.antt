use Rattle.tds_cells.proofs as N
use N.{arith, drop, length, rules, ◌+◌, ◌-◌, ◌∙◌, ◌≡◌}
use N.run.formats.write_numbers.Goals as goal

pub loop-cells-preserved : goal.loop-cells-preserved
loop-cells-preserved g c =
    let l = c.loop-cells in
    let from = c.args.from in
    let written = c.in-Some.written in
    let format = c.index-formats-cells.result in
    let new = c.write_int4_cell.new.to in
    let most = c.in-Some.ensures.most.1 in
    let left = c.loop-cells-test.true in
    let format_is : format ≡ N.get_or c.args.formats.now l.cells format = search (arith, rules) in
    let rest = N.FormatSteps.unused_from from.used l.used c.args.bytes.now l.invariant.from in
    let cell = λ (charset : N.Charset). rw format_is at (rw rest at (c.in-Some.ensures.cell charset)) in
    let size : length new ≡ length l.to - l.made = search (arith, rules) in
    let put = N.FormatSteps.comma_put l.made written.made l.to new _ (omega arith) (omega (arith, most, size, l.invariant.fits, left)) in
    let line = N.FormatSteps.stands from.made l.made (l.made + written.made + 1) l.to _ _ l.invariant.begun (omega arith) (search (arith, rules)) put in
    let long : length (N.slice_set (N.put_mid l.made (length l.to - l.made) l.to new) (l.made + written.made) 44) ≡ length l.to = search (arith, rules) in
    record {
      from = omega arith;
      begun = omega arith;
      size = search (arith, rules);
      kept = grind arith;
      whole = grind arith;
      fits = omega (arith, most, long);
      fields = λ charset. N.FormatSteps.fields_more written.used written.made format new _ (l.invariant.fields charset) left (grind (arith, N.length-drop))
          (omega (arith, N.length-drop from.made (N.slice_set (N.put_mid l.made (length l.to - l.made) l.to new) (l.made + written.made) 44), long)) N.refl
          (omega arith) (omega arith) line.text_is (cell charset).0.whole (cell charset).1;
    }

pub returns-in_default-clause-ends : goal.returns-in_default-clause-ends
returns-in_default-clause-ends g c = λ few format.
    let l = c.loop-cells in
    let from = c.args.from.used in
    let formats = c.args.formats.now in
    let bytes = c.args.bytes.now in
    let d = c.index-formats-cells.result in
    let is : d ≡ N.get_or formats l.cells d = search (arith, rules) in
    let there = is ∙ N.get_or_default formats l.cells d format c.loop-cells-test.true in
    let number = N.ValueCells.int4_scalar _ (c.requires.numbers.numbers l.cells format c.loop-cells-test.true) in
    let same : drop (l.used - from) (drop from bytes) ≡ drop l.used bytes = grind (arith, N.drop-drop) in
    rw same (N.RunSteps.scalar_left N.Windows1252 (N.get_or formats l.cells format).kind (drop l.used bytes)
    (length (N.take (length l.to - l.made) (drop l.made l.to)) + 1) number
    (rw (N.all_after bytes l.used) at (rw there at (c.in_default.ensures.cell N.Windows1252))))

pub returns-in_default-clause-fields : goal.returns-in_default-clause-fields
returns-in_default-clause-fields g c = λ charset.
    let l = c.loop-cells in
    N.FormatSteps.fields_kept c.args.from.made l.made l.to _ (grind arith) (omega arith) (N.RunSteps.made_same l.made l.to _ (omega arith))
    (l.invariant.fields charset)
