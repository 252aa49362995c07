use Rattle.tds_values.proofs as N
use N.lanes.hex_lanes.Goals as goal
use N.{arith, ◌%◌, ◌/◌, ◌∙◌}

pub nonzero_div-bytes : goal.nonzero_div-bytes
nonzero_div-bytes c = N.Each2-splat _ c.args.bytes 16 16 (N.Each1-all _ (λ x. omega arith) c.args.bytes)

pub digits-high-requires : goal.digits-high-requires
digits-high-requires c = rw (N.zip2_splat ◌/◌ c.args.bytes 16 16 c.requires) (record {
  few = grind (arith, N.length-map);
  small = grind (arith, N.LaneLemmas.high_small);
})

pub nonzero_rem-bytes : goal.nonzero_rem-bytes
nonzero_rem-bytes c = N.Each2-splat _ c.args.bytes 16 16 (N.Each1-all _ (λ x. omega arith) c.args.bytes)

pub digits-low-requires : goal.digits-low-requires
digits-low-requires c = rw (N.zip2_splat ◌%◌ c.args.bytes 16 16 c.requires) (record {
  few = grind (arith, N.length-map);
  small = N.LaneLemmas.low_small c.args.bytes;
})

pub returns-clause-digits : goal.returns-clause-digits
returns-clause-digits c =
    let v = c.args.bytes in
    let high = c.digits-high.ensures ∙ N.ap (N.map (N.slice_index N.lower_digits)) (N.zip2_splat _ v 16 16 c.requires) in
    let low = c.digits-low.ensures ∙ N.ap (N.map (N.slice_index N.lower_digits)) (N.zip2_splat _ v 16 16 c.requires) in
    N.ap₂ N.LaneLemmas.woven high low ∙ N.LaneLemmas.woven_digits v c.requires
