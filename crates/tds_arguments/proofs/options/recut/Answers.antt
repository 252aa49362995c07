use Rattle.tds_arguments.proofs as N
use N.{App}
use N.Commands.{argument_then, required}

pub returns : N.options.recut.Goals.returns
returns c =
    let size = required c.number-packet_size.result c.required.result c.required.ensures (rw c.packet_sizes.ensures at c.number-packet_size.ensures)
    in
    let bare : App = N.new_app (N.codes "recut") in
    let sized : App = N.with_rule bare N.new_packet_size_rule in
    let one = N.IfOk-weaker c.arg-command.result _ _ (λ m h. N.Commands.with_argument c.described.result m c.required.result c.described.ensures size h)
    c.arg-command.ensures in
    let two = argument_then c.arg-command.result c.with_argument-command.result c.max_wire.result sized N.max_wire_rule one c.max_wire.ensures
    c.with_argument-command.ensures in
    argument_then c.with_argument-command.result c.with_argument.result c.file.result (N.with_rule sized N.max_wire_rule) N.file_rule two c.file.ensures
    c.with_argument.ensures
