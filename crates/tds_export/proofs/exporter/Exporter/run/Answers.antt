use Rattle.tds_export.proofs as N
use N.exporter.Exporter.run.Goals as goal
use N.{rules}
use N.RunSteps.{completes, runs_none, runs_on, runs_ended, stops_end, stops_on}

pub tokens-init : goal.tokens-init
tokens-init g c = grind (N.arith, N.common_steps, runs_none)

pub tokens-preserved : goal.tokens-preserved
tokens-preserved g c = record {
  leaves = search rules;
  runs = λ tracks empty noted. let x = c.tokens.invariant.runs tracks empty noted in
      runs_on x c.tokens.invariant.leaves.same.6 c.tokens.invariant.leaves.areas.description
      (rw c.if-branch.true at (c.in_ok-token.ensures.gives x.tokens x.tracks x.holds x.noted));
}

pub returns-in_err-token-clause-gives : goal.returns-in_err-token-clause-gives
returns-in_err-token-clause-gives g c = λ tracks empty noted. let x = c.tokens.invariant.runs tracks empty noted in
    N.passed _ _ _ _ c.from_residual.ensures.1 (N.inl
    (stops_on x c.tokens.invariant.leaves.same.6 c.tokens.invariant.leaves.areas.description (c.in_err-token.ensures.gives x.tokens x.tracks x.holds x.noted)))

pub returns-then-not-self-clause-gives : goal.returns-then-not-self-clause-gives
returns-then-not-self-clause-gives g c = λ tracks empty noted. let first = c.tokens.invariant.runs tracks empty noted in
    let y = rw c.if-branch.false at (c.in_ok-token.ensures.gives first.tokens first.tracks first.holds first.noted) in
    let sink = c.in_ok-token.ensures.leaves.running.sink in
    rw (c.in_payload.ensures, c.place-place.ensures) (N.inl (stops_end (runs_ended g.W.Write.contents first y) y.takes y.over sink.writing sink.ready.2
    (search rules)))

pub returns-in_err-finish-clause-gives : goal.returns-in_err-finish-clause-gives
returns-in_err-finish-clause-gives g c = λ tracks empty noted. let first = c.tokens.invariant.runs tracks empty noted in
    let y = rw c.if-branch.false at (c.in_ok-token.ensures.gives first.tokens first.tracks first.holds first.noted) in
    N.passed _ _ _ _ c.from_residual-in_err-finish.ensures.1 (N.inr (
      record {
        middle = _;
        whole = N.RunSteps.reads_whole (runs_ended g.W.Write.contents first y) y.takes y.over (search rules);
        fails = c.in_err-finish.ensures.gives c.in_ok-token.ensures.leaves.running.sink.writing;
      },
      c.in_err-finish.ensures.failed,
    ))

pub returns-clause-gives : goal.returns-clause-gives
returns-clause-gives g c = λ tracks empty noted. let first = c.tokens.invariant.runs tracks empty noted in
    let y = rw c.if-branch.false at (c.in_ok-token.ensures.gives first.tokens first.tracks first.holds first.noted) in
    let x = runs_ended g.W.Write.contents first y in (
      completes x y.takes y.over (search rules) c.in_ok-finish.ensures.gives
          (N.ap (λ n. record c.token.new.self.progress.report { written = n }) c.delivered.ensures),
      x.noted,
    )
