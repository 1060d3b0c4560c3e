use Rattle.std.proofs.Common.{[], arith}
use Rattle.sinks.proofs.Walks.{walk_step, walk_end, walk_stop}
use Rattle.survey.proofs.groups.offer_missing.Goals as goal

pub loop-item-preserved : goal.loop-item-preserved
loop-item-preserved g c = λ ids knows.
    let known = knows _ _ record { shown = c.name.result; shows = c.name.ensures; says = record { met = c.is_known-missing.ensures } } in
    walk_step [] (omega arith) (c.loop-item.invariant ids knows) (rw (known, c.of_item-breach.ensures, c.group_at.ensures) at c.offer_if.ensures.took)

pub returns-in_err-offer_if-clause-took : goal.returns-in_err-offer_if-clause-took
returns-in_err-offer_if-clause-took g c = λ ids knows.
    let known = knows _ _ record { shown = c.name.result; shows = c.name.ensures; says = record { met = c.is_known-missing.ensures } } in
    walk_stop [] (omega arith) (c.loop-item.invariant ids knows) (rw (known, c.of_item-breach.ensures, c.group_at.ensures) at c.offer_if.ensures.took) c.in_err-offer_if.ensures.goes

pub returns-clause-took : goal.returns-clause-took
returns-clause-took g c = λ ids knows. walk_end (omega arith) (c.loop-item.invariant ids knows)
