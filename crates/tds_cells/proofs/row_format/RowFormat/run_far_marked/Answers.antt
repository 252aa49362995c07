use Rattle.tds_cells.proofs as N
use N.{arith, sym, ◌++◌, ◌+◌, ◌∙◌}
use N.RowFormatRuns.{runs_column, runs_more}

pub loop-used-preserved : N.row_format.RowFormat.run_far_marked.Goals.loop-used-preserved
loop-used-preserved c =
    let l = c.loop-used in
    elim c.if-is_null.branch [
      -- columns that are NULL by their bit
      | N.row_format.RowFormat.run_far_marked.Goals.then-is_null w ↦
          let nulls = w.write_nulls-nulls.result in
          let text = w.write_nulls-nulls.new.to in
          rw (w.to-is, w.used-is, w.made-is) (record {
            used = l.invariant.used;
            made = search arith;
            room = search arith;
            writes = λ columns knows ahead.
                let ran = l.invariant.writes columns knows ahead in
                rw (sym (N.add-zero l.used)) (grind (arith, runs_more, N.RunSteps.made_more));
          })
      -- one that isn't
      | N.row_format.RowFormat.run_far_marked.Goals.else-is_null+in-Some-next w ↦
          let made = w.in-Some-next.written.made in
          let far = w.write_far_alone-next in
          let new = far.new.to in
          let cell = w.in-Some-next.ensures.cell in
          let clear = sym c.is_null.ensures ∙ w.if-is_null.false in
          rw (w.to-is, w.used-is, w.made-is) (record {
            used = grind (arith, N.length-drop);
            made = search arith;
            room = search arith;
            writes = λ columns knows ahead.
                let ran = l.invariant.writes columns knows ahead in
                let further = c.pass.ensures.further ∙ N.ap (λ n. l.at.column + n) w.columns-is in
                let taken = N.RowFormatSteps.takes (c.in-Some.ensures.next columns knows ran.ahead) further (c.pass.ensures.ahead columns knows ran.ahead) in
                let last = c.is_last-last.ensures ∙ N.RowFormatSteps.last_one _ _ _ _ _ knows.counted taken.next in
                let whole = rw last at (rw (sym (N.all_after c.args.bytes.now l.used)) at cell.1.whole) in
                runs_more _ _ _ _ _ _ l.to new _ (N.take-add l.made made new ∙ N.ap (λ t. t ++ N.take made (N.drop l.made new)) far.ensures.kept) ran
                (runs_column taken N.refl clear whole);
          })
    ]
