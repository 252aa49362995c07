use Rattle.tds_export.proofs as N
use N.exporter.Exporter.run.Given as goal
use N.{[], ◌-◌, ◌≡◌}

abbrev pub invariant-tokens : goal.invariant-tokens
invariant-tokens g l = record {
  leaves : N.LeavesRun {U = N.ℕ} l.initial.self l.self (N.Ok 0);
  runs : N.Tracks l.initial.self.progress [] → l.initial.self.description.now ≡ N.empty l.initial.self.description.now.room
      → N.IsNoted l.initial.self.notice.now [] → N.RunSteps.Runs l.initial.self.charset (N.view_of g.R.Read.remaining g.W.Write.contents l.initial.self)
      (N.view_of g.R.Read.remaining g.W.Write.contents l.self) l.self.progress;
}

abbrev pub decreases-tokens : goal.decreases-tokens
decreases-tokens g l = l.self.payload.now.max_wire - l.self.payload.now.place
