use Rattle.std.proofs.Common.{◌∙◌}
use Rattle.report.proofs.Reported.{first_is}
use Rattle.report.proofs.calls.first.Goals as goal

pub returns : goal.returns
returns g c = record { value = c.survey.ensures.took ∙ first_is _ }
