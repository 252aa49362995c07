use Rattle.tds_export.proofs as N
use N.exporter.Exporter.metadata.Goals as goal
use N.{rules}
use N.TokenSteps.{none_reads, step_read}

pub returns-in-NoMetadata : goal.returns-in-NoMetadata
returns-in-NoMetadata g c = step_read c.requires.running (search rules) (λ _ begun.
    none_reads _ begun (rw c.in-NoMetadata.is at c.in_ok-gather_next.ensures.gives).0)

pub returns-in_err-gather_next : goal.returns-in_err-gather_next
returns-in_err-gather_next g c = step_read c.requires.running (search rules) (λ _ begun. N.passed _ _ _ _ c.from_residual.ensures.1
    (N.TokenSteps.metadata_stops _ begun (c.in_err-gather_next.ensures.gives c.requires.running.payload.going).describing))

pub returns-in_err-put_header : goal.returns-in_err-put_header
returns-in_err-put_header g c = step_read c.requires.running (search rules) (λ _ begun. let sink = c.requires.running.sink in
    let gives = rw c.in_default.is at c.in_ok-gather_next.ensures.gives in
    let breaks = rw (c.view-columns.ensures, c.bytes.ensures.value) at (c.in_err-put_header.ensures.gives sink.writing) in
    N.passed _ _ _ _ c.from_residual-in_err-put_header.ensures.1 (N.inr (
      N.TokenSteps.metadata_breaks _ begun (N.description_shows _ _ _ gives.4).0 gives.2 (sink.ready.1 sink.writing)
          (N.between_of g.R.Read.remaining c.gather_next.new.payload c.in_ok-gather_next.ensures.leaves.payload.going) breaks,
      c.in_err-put_header.ensures.failed,
    )))

pub returns : goal.returns
returns g c = step_read c.requires.running (search rules) (λ _ begun. let gives = rw c.in_default.is at c.in_ok-gather_next.ensures.gives in
    N.TokenSteps.metadata_reads _ begun (N.description_shows _ _ _ gives.4).0 gives.2
    (rw (c.view-columns.ensures, c.bytes.ensures.value) at c.in_ok-put_header.ensures.gives))
