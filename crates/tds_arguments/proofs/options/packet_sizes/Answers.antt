use Rattle.tds_arguments.proofs as N

pub returns : N.options.packet_sizes.Goals.returns
returns c = N.Commands.narrowed c.value_parser.result c.range.result _ _ c.value_parser.ensures (rw (c.new.ensures.start, c.from.ensures) N.refl)
    (rw (c.new.ensures.end, c.from-2.ensures) N.refl) c.range.ensures
