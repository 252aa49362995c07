use Rattle.tds_cells.proofs as N
use N.{arith, sym, ◌∙◌, ◌≡◌, ◌⊎◌}
use N.row_format.RowFormat.learn.Goals as goal
use N.RowFormatSteps.{all_more, first_more, next_column}

pub loop-known-preserved : goal.loop-known-preserved
loop-known-preserved c =
    let inv = c.loop-known.invariant in
    let step = sym inv.rest ∙ c.in-Some.ensures.steps in
    let columns = N.columns_of c.args.columns.bytes.now in
    let next = next_column columns _ step in
    record {
      most = search (arith, N.rules);
      few = omega arith;
      first = first_more _ columns _ c.of.result
          (omega arith) inv.first step c.of.ensures.kind;
      laid = N.LaidOut.each_set (λ f. N.IsLaidOut c.args.charset f.kind f.layout) _ _ c.of.result inv.laid
          (omega arith) c.of.ensures.laid;
      numbers = N.LaidOut.kind_set N.is_int4 _ _ c.of.result _ c.is_int4-only_numbers.result inv.numbers
          (omega arith) (grind arith);
      counted = N.LaidOut.kind_set N.is_counted _ _ c.of.result _ c.is_counted-only_counted.result inv.counted
          (omega arith) (grind arith);
      numbers_are = all_more N.is_int4 columns _ step inv.numbers_are c.is_int4-only_numbers.ensures;
      counted_are = all_more N.is_counted columns _ step inv.counted_are c.is_counted-only_counted.ensures;
      rest = sym next.1.1;
    }

pub returns : goal.returns
returns c =
    let inv = c.loop-known.invariant in
    let columns = N.columns_of c.args.columns.bytes.now in
    let all : (c.loop-known.known ≡ N.length c.loop-known.formats) ⊎ (c.loop-known.known ≡ N.length columns) = elim c.loop-known-test.branch [
      | N.row_format.RowFormat.learn.Goals.else-loop-known-test w ↦ N.inl (omega arith)
      | N.row_format.RowFormat.learn.Goals.then-loop-known-test+in_default w ↦ N.inr (omega (
        arith,
        inv.few,
        N.length-drop c.loop-known.known columns,
        N.ap N.length (sym inv.rest ∙ w.in_default.ensures.steps.0),
      ))
    ] in
    grind arith
