use Rattle.tds_rows.proofs as N
use N.cell.streamed.LongValue.read.Goals as goal
use N.{◌∙◌}
use N.LongValues.{total_text, field_puts, next_breaks, next_path, null_puts}

pub returns-in_err-total-in-Chunked-clause-field : goal.returns-in_err-total-in-Chunked-clause-field
returns-in_err-total-in-Chunked-clause-field g c = λ conversion suits. rw c.in-Chunked.is (
    N.passed _ _ _ _ c.from_residual.ensures.1 (N.LongValues.reading_stops _ c.requires.sink.ready.2 c.requires.sink.writing
    (N.Numbers.total_stops _ (search N.rules) c.in_err-total-in-Chunked.ensures.length)))

pub returns-in-None-clause-field : goal.returns-in-None-clause-field
returns-in-None-clause-field g c = λ conversion suits. rw c.in-Chunked.is (
    null_puts _
    (search (N.rules, N.Numbers.total_none)) N.refl c.requires.sink
    c.put_null.ensures)

pub returns-in_err-put_opening-in-Some-clause-field : goal.returns-in_err-put_opening-in-Some-clause-field
returns-in_err-put_opening-in-Some-clause-field g c = λ conversion suits. rw c.in-Chunked.is (
    let sink = c.requires.sink in
    let x = N.Numbers.total_start conversion (search N.rules) c.in_ok-total-in-Chunked.ensures.length c.in-Some.is in
    let breaks = rw (c.QUOTED.ensures ∙ suits.quoted_is) at (c.in_err-put_opening-in-Some.ensures.gives sink.writing) in
    N.passed _ _ _ _ c.from_residual-in_err-put_opening-in-Some.ensures.1
    (next_breaks _ x _ N.[] (sink.ready.1 sink.writing) sink.ready.2 c.in_err-put_opening-in-Some.ensures.failed
    (search (N.rules, N.append-nil, total_text)) breaks))

pub returns-in_ok-put_opening-in-Some-clause-field : goal.returns-in_ok-put_opening-in-Some-clause-field
returns-in_ok-put_opening-in-Some-clause-field g c = λ conversion suits. rw c.in-Chunked.is (
    let x = N.Numbers.total_start conversion (search N.rules) c.in_ok-total-in-Chunked.ensures.length c.in-Some.is in
    let opened = rw (c.QUOTED.ensures ∙ suits.quoted_is) at c.in_ok-put_opening-in-Some.ensures.gives in
    let start = next_path _ x _ (total_text _ c.args.self.now.last conversion c.in-Some.total) opened in
    N.MatchResult-weaker c.chunks.result (c.chunks.ensures.field conversion suits) (λ _ y. field_puts start y)
    (λ stop y. N.Paths.path_stops start y))

pub returns-in-Short-clause-field : goal.returns-in-Short-clause-field
returns-in-Short-clause-field g c = λ conversion suits. rw c.in-Short.is (search N.rules)
