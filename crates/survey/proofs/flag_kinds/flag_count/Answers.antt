use Rattle.std.proofs.Common.{arith}
use lib.ListN.{length-map}
use Rattle.survey.proofs.flag_kinds.flag_count.Goals as goal

pub returns : goal.returns
returns g c = rw length-map (omega (arith, c.alias_count.ensures))
