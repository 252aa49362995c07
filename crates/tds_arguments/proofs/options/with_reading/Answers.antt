use Rattle.tds_arguments.proofs as N

pub returns : N.options.with_reading.Goals.returns
returns c =
    N.IfOk-weaker c.with_command.result _ _ (λ m g.
    let made = N.IfOk-at_ok (N.GainsCommand c.without_commands.result c.export.result) g.2 c.with_command-program.ensures in
    let bare = N.IfOk-at_ok (N.IsCommand N.bare_app) made.2 c.without_commands.ensures in
    let export = N.IfOk-at_ok (N.IsReading (N.codes "export")) made.3 c.export.ensures in
    let check = N.IfOk-at_ok (N.IsReading (N.codes "check")) g.3 c.check.ensures in
    (export.0, check.0, export.1, check.1, N.Commands.with_command g.0 g.1 m (N.Commands.with_command made.0 made.1 g.0 bare export.2 made.4) check.2 g.4))
    c.with_command.ensures
