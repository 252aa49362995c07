use Rattle.tds_rows.proofs as N
use N.cell.streamed.LongValue.short.Goals as goal
use N.{◌∙◌, ◌++◌, []}
use N.Numbers.{short_start}
use N.LongValues.{empty_puts, empty_stops, field_puts, next_breaks, next_path, null_puts, short_open, short_text, short_whole, short_holds}
use Rattle.tds_cells.proofs.SeveralChunks.{none_begins, rest_none}

pub returns-in_err-n-clause-field : goal.returns-in_err-n-clause-field
returns-in_err-n-clause-field g c = λ conversion suits.
    N.passed _ _ _ _ c.from_residual.ensures.1 (N.LongValues.reading_stops _ c.requires.sink.ready.2 c.requires.sink.writing
    (N.Numbers.short_stops _ (search N.rules) c.in_err-n.ensures.length))

pub returns-in_default-clause-field : goal.returns-in_default-clause-field
returns-in_default-clause-field g c = λ conversion suits.
    null_puts _
    (search (N.rules, N.Numbers.short_none)) N.refl c.requires.sink
    c.put_null.ensures

pub returns-in_err-put_opening-clause-field : goal.returns-in_err-put_opening-clause-field
returns-in_err-put_opening-clause-field g c = λ conversion suits.
    let sink = c.requires.sink in
    let x = short_start _ (search N.rules) c.in_ok-n.ensures.length c.in-Some.is in
    let breaks = rw (c.QUOTED.ensures ∙ suits.quoted_is) at (c.in_err-put_opening.ensures.gives sink.writing) in
    let rest = short_text _ _ conversion c.in-Some.n in
    N.passed _ _ _ _ c.from_residual-in_err-put_opening.ensures.1
    (next_breaks _ x _ rest.0 (sink.ready.1 sink.writing) sink.ready.2 c.in_err-put_opening.ensures.failed rest.1 breaks)

pub returns-then-n-eq0-clause-field : goal.returns-then-n-eq0-clause-field
returns-then-n-eq0-clause-field g c = λ conversion suits.
    let sink = c.requires.sink in
    let x = short_start _ (search N.rules) c.in_ok-n.ensures.length c.in-Some.is in
    let opened = rw (c.QUOTED.ensures ∙ suits.quoted_is) at c.in_ok-put_opening.ensures.gives in
    let ended = rw suits.quoted_is at (c.put_end.ensures.end conversion [] suits (search (N.rules, rest_none)) (none_begins _)) in
    rw c.put_end.ensures.payload (N.MatchResult-weaker c.put_end.result ended (λ _ y. empty_puts _ _ _ _ x c.if-n-eq0.true opened y.1)
    (λ stop y. empty_stops _ _ _ x c.if-n-eq0.true opened (sink.ready.1 sink.writing) sink.ready.2 y))

pub returns-in_err-push_data-clause-field : goal.returns-in_err-push_data-clause-field
returns-in_err-push_data-clause-field g c = λ conversion suits.
    let x = short_start _ (search N.rules) c.in_ok-n.ensures.length c.in-Some.is in
    let opened = rw (c.QUOTED.ensures ∙ suits.quoted_is) at c.in_ok-put_opening.ensures.gives in
    let stops = c.in_err-push_data.ensures.data conversion [] suits (search (N.rules, rest_none)) (none_begins _) in
    N.passed _ _ _ _ c.from_residual-in_err-push_data.ensures.1
    (N.Paths.path_stops (next_path _ x _ (short_open _ _ conversion {n = c.in-Some.n} (search N.arith)) opened)
    (N.LongValues.filling_stops _ (short_holds _ conversion) stops))

pub returns-clause-field : goal.returns-clause-field
returns-clause-field g c = λ conversion suits.
    let x = short_start _ (search N.rules) c.in_ok-n.ensures.length c.in-Some.is in
    let opened = rw (c.QUOTED.ensures ∙ suits.quoted_is) at c.in_ok-put_opening.ensures.gives in
    let start = next_path _ x _ (short_open _ _ conversion {n = c.in-Some.n} (search N.arith)) opened in
    let y = c.in_ok-push_data.ensures.data conversion [] suits (search (N.rules, rest_none)) (none_begins _) in
    let same = c.in_ok-push_data.ensures.leaves.same in
    let ended = rw (same.3, same.4, c.place-last_byte.ensures, suits.quoted_is) at
    (c.put_end-2.ensures.end conversion (y.front ++ y.takes.piece) suits y.takes.kept_is y.takes.begun) in
    rw c.put_end-2.ensures.payload (N.MatchResult-weaker _ ended (λ _ z. field_puts start (short_whole _ _ _ y z.0 z.1))
    (λ stop z. N.Paths.path_stops start (N.LongValues.short_end_stops _ _ _ y z)))
