use Rattle.tds_csv.proofs as N
use N.joiners.parts.put_text.Given as goal
use N.{◌-◌, ◌≤◌}

-- the text of the bytes so far was put
abbrev pub invariant-loop-taken : goal.invariant-loop-taken
invariant-loop-taken g l = record {
  within : l.taken ≤ N.length l.bytes;
  puts : N.PutsPiece g.W.Write.contents l.initial.sink l.sink (g.C.Bytewise.text (N.take l.taken l.bytes)) (N.Ok (tt {0}));
}

abbrev pub decreases-loop-taken : goal.decreases-loop-taken
decreases-loop-taken g l = N.length l.bytes - l.taken
