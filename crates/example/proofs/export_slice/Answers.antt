use Rattle.example.proofs.export_slice.Goals as goal
use Rattle.std.proofs.Common.{ap, Some}
use Rattle.example.proofs.Answers.{answer_exports}

-- src/main.rt:36:1
pub returns-clause-exported : goal.returns-clause-exported
returns-clause-exported g c = λ had are known.
    answer_exports _ _ c.args.response.now had c.export.result c.export.ensures.exports.tells are (ap (λ d. Some d.device.now) c.new.ensures) known
