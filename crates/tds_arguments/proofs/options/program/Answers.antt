use Rattle.tds_arguments.proofs as N

pub returns : N.options.program.Goals.returns
returns c =
    N.IfOk-weaker c.with_command.result _ _ (λ m g.
    let two = N.IfOk-at_ok N.HasReading g.2 c.with_reading.ensures in
    let recut = N.IfOk-at_ok (N.IsCommand N.recut_app) g.3 c.recut.ensures in
    (two.0, two.1, two.2, two.3, (N.Commands.with_command g.0 g.1 m two.4 recut g.4).0)) c.with_command.ensures
