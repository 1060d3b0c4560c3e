use Rattle.rules.proofs.Alone.{exactly_one}
use Rattle.rules.proofs.laws.one_list.Goals as goal

pub returns : goal.returns
returns c f bs cs l k = exactly_one bs cs l k
