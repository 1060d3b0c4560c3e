use Rattle.rules.proofs.Tidied.{empty_means_tidy}
use Rattle.rules.proofs.meaning.empty_means_tidy.Goals as goal

pub returns : goal.returns
returns c = empty_means_tidy
