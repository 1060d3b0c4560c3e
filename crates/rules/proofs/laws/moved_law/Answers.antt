use Rattle.rules.proofs.Moves.{moved_law}
use Rattle.rules.proofs.laws.moved_law.Goals as goal

pub returns : goal.returns
returns c = moved_law
