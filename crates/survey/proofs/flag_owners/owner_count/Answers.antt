use Rattle.std.proofs.Common.{arith}
use Rattle.survey.proofs.Owners.{length_owners}
use Rattle.survey.proofs.flag_owners.owner_count.Goals as goal

pub returns : goal.returns
returns g c = omega (arith, length_owners (g.F.FormSource.form c.args.form.now))
