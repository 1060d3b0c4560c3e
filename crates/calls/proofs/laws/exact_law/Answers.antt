use Rattle.calls.proofs.Exactness.{exact_law}
use Rattle.calls.proofs.laws.exact_law.Goals as goal

pub returns : goal.returns
returns c = exact_law
