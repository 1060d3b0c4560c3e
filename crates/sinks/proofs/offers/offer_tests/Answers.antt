use Rattle.std.proofs.Common.{arith}
use Rattle.sinks.proofs.offers.offer_tests.Goals as goal
use Rattle.sinks.proofs.Walks.{walk_step, walk_end, walk_stop}

pub returns-in_err-offer_if-clause-took : goal.returns-in_err-offer_if-clause-took
returns-in_err-offer_if-clause-took g c = walk_stop _ (omega arith) c.loop-broken.invariant (rw c.of_one.ensures at c.offer_if.ensures.took) c.in_err-offer_if.ensures.goes

pub loop-broken-preserved : goal.loop-broken-preserved
loop-broken-preserved g c = walk_step _ (omega arith) c.loop-broken.invariant (rw c.of_one.ensures at c.offer_if.ensures.took)

pub returns-clause-took : goal.returns-clause-took
returns-clause-took g c = walk_end (omega arith) c.loop-broken.invariant
