use Rattle.tds_arguments.proofs as N
use N.{App}
use N.Commands.{argument_then}

pub returns : N.options.limited.Goals.returns
returns c =
    let bare : App = N.new_app c.args.name.now in
    let sized : App = N.with_rule bare N.packet_size_rule in
    let one = N.IfOk-weaker c.arg-command.result _ _ (λ m h. N.Commands.with_argument c.described.result m c.packet_size.result c.described.ensures
    c.packet_size.ensures h) c.arg-command.ensures in
    let two = argument_then c.arg-command.result c.with_argument-command.result c.column_room.result sized N.column_room_rule one c.column_room.ensures
    c.with_argument-command.ensures in
    argument_then c.with_argument-command.result c.with_argument.result c.max_wire.result (N.with_rule sized N.column_room_rule) N.max_wire_rule two
    c.max_wire.ensures c.with_argument.ensures
