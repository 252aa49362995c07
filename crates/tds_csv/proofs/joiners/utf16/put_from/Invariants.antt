use Rattle.tds_csv.proofs as N
use N.joiners.utf16.put_from.Given as goal
use N.{◌-◌, ◌≤◌, ℕ}
use Rattle.tds_text.specs.Utf16 as utf16

-- the text so far was put
abbrev pub invariant-loop-at : goal.invariant-loop-at
invariant-loop-at g l = record {
  within : l.at ≤ N.length l.bytes;
  after : l.from ≤ l.at;
  puts : (out : N.List ℕ) × N.PutsPiece g.W.Write.contents l.initial.sink l.sink out (N.Ok (tt {0}))
      × N.Leads utf16.rest utf16.text (N.drop l.from l.bytes) (N.drop l.at l.bytes) out;
}

abbrev pub decreases-loop-at : goal.decreases-loop-at
decreases-loop-at g l = N.length l.bytes - l.at
