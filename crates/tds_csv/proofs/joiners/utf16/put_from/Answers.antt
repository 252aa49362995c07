use Rattle.tds_csv.proofs as N
use Rattle.tds_text.proofs as T
use N.joiners.utf16.put_from.Goals as goal
use N.{◌+◌, ◌-◌, ◌≤◌, [], drop, arith}
use T.Utf16Laws.{joins_utf16}
use N.PutParts.{puts_on, puts_part, puts_whole}
use T.JoiningLemmas.{Leads-front, Leads-next, Leads-none, Leads-trans}

pub loop-at-init : goal.loop-at-init
loop-at-init g c = record { within = c.requires.from; after = omega arith; puts = ([], N.Puttings.PutsPiece-none _ _ tt c.requires.writing, Leads-none) }

pub returns-in_err-at-clause-puts : goal.returns-in_err-at-clause-puts
returns-in_err-at-clause-puts g c =
    let xs = c.args.bytes.now in
    let at = c.loop-at.at + c.put_plain-plain.result in
    let before = puts_on xs c.loop-at.at c.put_plain-plain.result c.loop-at.invariant.puts c.put_plain-plain.ensures.puts in
    N.Puttings.PutsPiece-error c.from_residual.ensures.1 (puts_whole before.2 before.1 (puts_part
    (Leads-front joins_utf16 (drop at xs) (c.min-end.result - at) tt) c.in_err-at.ensures.puts))

pub loop-at-preserved : goal.loop-at-preserved
loop-at-preserved g c =
    let xs = c.args.bytes.now in
    let at = c.loop-at.at + c.put_plain-plain.result in
    let used = c.in_ok-at.field-0 in
    let before = puts_on xs c.loop-at.at c.put_plain-plain.result c.loop-at.invariant.puts c.put_plain-plain.ensures.puts in
    let left = c.in_ok-at.ensures.used in
    let within : used ≤ N.length (N.take (c.min-end.result - at) (drop at xs)) = left.within in
    record {
      within = omega arith;
      after = omega arith;
      puts = (
        _,
        N.Puttings.PutsPiece-ok used tt (N.Puttings.PutsPiece-trans _ _ _ _ tt _ _ (N.Ok used) before.1 c.in_ok-at.ensures.puts),
        Leads-trans before.2 (Leads-next joins_utf16 xs at (c.min-end.result - at) used tt left.within left.rest),
      );
    }

pub returns-then-end-bytes-clause-puts : goal.returns-then-end-bytes-clause-puts
returns-then-end-bytes-clause-puts g c =
    let xs = c.args.bytes.now in
    let at = c.loop-at.at + c.put_plain-plain.result in
    let before = puts_on xs c.loop-at.at c.put_plain-plain.result c.loop-at.invariant.puts c.put_plain-plain.ensures.puts in
    N.Puttings.PutsPiece-ok _ _ (puts_whole before.2 before.1 (rw (N.take_all (c.min-end.result - at) (drop at xs) (omega (arith, N.length-drop at xs)))
    at c.in_ok-at.ensures.puts))
