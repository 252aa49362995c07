use Rattle.tds_text.proofs as N
use N.{◌-◌}
use N.utf8.convert_rest.Goals as goal

pub returns-then-scan-rest : goal.returns-then-scan-rest
returns-then-scan-rest = grind (N.arith, N.UsualText.rest_of, N.UsualText.begun_none)

pub returns : goal.returns
returns c =
    let is = N.UsualText.rest_of c.args.bytes.now c.args.after.used in
    let scan = c.scan_text-scan.ensures in
    N.UsualText.begun_more _ _ c.requires.before (rw is at scan.scan) (rw is at scan.text) (rw is at c.if-scan-rest.false)
    (omega (N.arith, c.convert-made.ensures.short, scan.scan.order, scan.scan.most, N.length-take-le {A = N.ℕ}))
    (grind (N.arith, N.common_steps, N.take-append-add))
