use Rattle.std.proofs.Common.{[], arith}
use Rattle.sinks.proofs.Walks.{walk_step, walk_end, walk_stop}
use Rattle.survey.proofs.names.offer_names.Goals as goal

pub loop-item-preserved : goal.loop-item-preserved
loop-item-preserved g c =
    walk_step [] (omega arith) c.loop-item.invariant c.offer_name.ensures.took

pub returns-in_err-offer_name-clause-took : goal.returns-in_err-offer_name-clause-took
returns-in_err-offer_name-clause-took g c =
    walk_stop [] (omega arith) c.loop-item.invariant c.offer_name.ensures.took c.in_err-offer_name.ensures.goes

pub returns-clause-took : goal.returns-clause-took
returns-clause-took g c = walk_end (omega arith) c.loop-item.invariant
