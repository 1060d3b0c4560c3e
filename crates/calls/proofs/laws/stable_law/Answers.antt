use Rattle.calls.proofs.Stability.{stable_law}
use Rattle.calls.proofs.laws.stable_law.Goals as goal

pub returns : goal.returns
returns c = stable_law
