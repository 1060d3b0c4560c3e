use Rattle.std.proofs.Common.{arith}
use Rattle.survey.proofs.TakenNames.{few_names}
use Rattle.survey.proofs.names.name_count.Goals as goal

pub overflow_add-result : goal.overflow_add-result
overflow_add-result g c =
    omega (arith, c.name_count.ensures, few_names (g.F.FormSource.form c.args.form.now) c.args.place (g.F.FormSource.fits c.args.form.now))
