use Rattle.tds_packet.proofs as N
use N.payload.Payload.fill_on.Goals as goal
use N.{◌≡◌, ◌+◌, ◌-◌, ◌≤◌, rules}
use N.PayloadLaws.{between_of, ends_there, takes_piece}

pub loop-at-preserved : goal.loop-at-preserved
loop-at-preserved g c =
    let h = c.piece.follows.holds-at-none in
    let k = rw c.in-Ok.is at h.2 in
    let s = c.piece.follows.lender-at-none in
    let inv = c.loop-at.invariant in
    let bytes = c.in-Ok.bytes.now in
    let all : c.copy_from_slice.new.self ≡ bytes = search rules in
    let put = N.take-put_mid c.loop-at.at ((c.loop-at.at + N.length bytes) - c.loop-at.at) c.loop-at.to bytes (c.loop-at.at + N.length bytes) (omega N.arith)
    inv.within in
    record {
      sound = h.0;
      same = search rules;
      within = search rules;
      place = omega N.arith;
      going = k.3;
      takes = rw (all, put) (takes_piece g.R.Read.remaining c.args.self.now c.loop-at.self s (N.take c.loop-at.at c.loop-at.to) bytes
          (N.length-take-le c.loop-at.at c.loop-at.to inv.within) c.in-Ok.ensures.len.0 inv.takes k.0);
    }

pub returns-in-Err-clause-part : goal.returns-in-Err-clause-part
returns-in-Err-clause-part g c = λ _. let s = c.piece.follows.lender-at-none in (
  c.loop-at.at,
  c.in-Err.stop,
  search rules,
  rw c.cut.ensures.rest (ends_there g.R.Read.remaining c.args.self.now c.loop-at.self s
      c.loop-at.invariant.takes (rw c.in-Err.is at c.piece.follows.holds-at-none.2).0),
  search rules,
)

pub returns-clause-between : goal.returns-clause-between
returns-clause-between g c = search (N.rules, between_of)
