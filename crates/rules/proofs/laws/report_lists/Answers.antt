use Rattle.rules.proofs.Lists.{report_lists}
use Rattle.rules.proofs.laws.report_lists.Goals as goal

pub returns : goal.returns
returns c = report_lists
