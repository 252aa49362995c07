use Rattle.tds_csv.proofs as N
use N.sink.Sink.put.Given as goal
use N.{◌-◌, ◌≤◌}

abbrev pub invariant-loop-taken : goal.invariant-loop-taken
invariant-loop-taken g l = record {
  within : l.taken ≤ N.length l.piece;
  puts : N.PutsPiece g.W.Write.contents l.initial.self l.self (N.take l.taken l.piece) (N.Ok (tt {0}));
}

abbrev pub decreases-loop-taken : goal.decreases-loop-taken
decreases-loop-taken g l = N.length l.piece - l.taken
