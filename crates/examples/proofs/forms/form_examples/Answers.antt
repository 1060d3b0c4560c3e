use Rattle.std.proofs.Common.{refl}
use Rattle.rules.specs.Order.{blocks}
use Rattle.rules.specs.Report.{breaches}
use Rattle.examples.proofs.forms.form_examples.Goals as goal

pub returns : goal.returns
unfolding blocks breaches
returns c = record { subcommand_only = refl; group_met = refl; own_alias = refl; gap = refl; no_gap = refl }
