use Rattle.tds_packet.proofs as N
use N.payload.Payload.pass_on.Goals as goal
use N.{◌≡◌, ◌∙◌, ◌++◌, ◌+◌, rules}
use N.PayloadLaws.{between_of, ends_there, takes_piece}

pub loop-passed-preserved : goal.loop-passed-preserved
loop-passed-preserved g c =
    let h = c.piece.follows.holds-at-none in
    let k = rw c.in-Ok.is at h.2 in
    let inv = c.loop-passed.invariant in
    let bytes = c.in-Ok.bytes.now in
    record {
      sound = h.0;
      same = search rules;
      within = search rules;
      place = omega N.arith;
      going = k.3;
      passes = record {
        bytes = inv.passes.bytes ++ bytes;
        counted = grind (N.arith, N.length-append);
        takes = takes_piece g.R.Read.remaining c.args.self.now c.loop-passed.self c.piece.follows.lender-at-none inv.passes.bytes bytes
            inv.passes.counted c.in-Ok.ensures.len.0 inv.passes.takes k.0;
      };
    }

pub returns-in-Err-clause-part : goal.returns-in-Err-clause-part
returns-in-Err-clause-part g c = λ _.
    let s = c.piece.follows.lender-at-none in
    let before = c.loop-passed.invariant.passes in
    record {
      part = before.bytes;
      own = c.in-Err.stop;
      fewer = omega N.arith;
      ends = rw c.cut.ensures.rest (ends_there g.R.Read.remaining c.args.self.now c.loop-passed.self s
          before.takes (rw c.in-Err.is at c.piece.follows.holds-at-none.2).0);
      stop_is = search rules;
    }

pub returns-clause-between : goal.returns-clause-between
returns-clause-between g c = search (N.rules, between_of)
