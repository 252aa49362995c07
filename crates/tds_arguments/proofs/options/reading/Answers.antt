use Rattle.tds_arguments.proofs as N
use N.{App}

pub returns : N.options.reading.Goals.returns
returns c =
    let limited : App = N.limited_app c.args.name.now in
    let charset = c.charset.ensures in
    let with_charset : App = N.with_rule limited (N.charset_rule charset.0) in
    let one = N.Commands.argument_then c.limited.result c.with_argument-command.result c.charset.result limited (N.charset_rule charset.0) c.limited.ensures
    charset.2 c.with_argument-command.ensures in
    let two = N.Commands.argument_then c.with_argument-command.result c.with_argument-command-2.result c.all.result with_charset N.all_rule
    one c.all.ensures c.with_argument-command-2.ensures in
    let three = N.Commands.argument_then c.with_argument-command-2.result c.with_argument.result c.file.result (N.with_rule with_charset N.all_rule)
    N.file_rule
    two c.file.ensures c.with_argument.ensures in
    N.IfOk-weaker c.with_argument.result _ _ (λ m h. (charset.0, charset.1, h)) three
