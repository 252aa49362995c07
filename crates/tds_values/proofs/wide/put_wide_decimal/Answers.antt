use Rattle.tds_values.proofs as N
use N.wide.put_wide_decimal.Goals as goal

pub returns-then-scale-eq0-clause-written : goal.returns-then-scale-eq0-clause-written
returns-then-scale-eq0-clause-written c =
    let whole = N.WideDigits.whole_joined c.args.negative c.args.magnitude c.args.scale c.digits-leading_zeros.result.1 c.put_sign-at.result
    c.put_from-end.new.to _ c.digits-leading_zeros.ensures.digits c.put_sign-at.ensures.written in
    grind (N.arith, whole, N.append-nil, N.append_assoc, N.length-take-le)

pub returns-clause-written : goal.returns-clause-written
returns-clause-written c =
    let whole = N.WideDigits.whole_joined c.args.negative c.args.magnitude c.args.scale c.digits-leading_zeros.result.1 c.put_sign-at.result
    c.put_from-end.new.to _ c.digits-leading_zeros.ensures.digits c.put_sign-at.ensures.written in
    grind (N.arith, whole, N.append_assoc, N.length-take-le, (N.WordLemmas.end_digits 40 c.args.scale c.args.magnitude))
