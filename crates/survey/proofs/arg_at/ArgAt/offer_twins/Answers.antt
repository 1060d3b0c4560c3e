use Rattle.rules.specs.Order.{blocks}
use Rattle.sinks.proofs.Walks.{then_more, then_stop}
use Rattle.survey.proofs.arg_at.ArgAt.offer_twins.Goals as goal

pub returns-in_err-offer_later-clause-took : goal.returns-in_err-offer_later-clause-took
unfolding blocks
returns-in_err-offer_later-clause-took g c = then_stop g.S.Sink _ _ c.offer_later.ensures.took c.in_err-offer_later.ensures.goes

pub returns-in_err-offer_later-2-clause-took : goal.returns-in_err-offer_later-2-clause-took
unfolding blocks
returns-in_err-offer_later-2-clause-took g c =
    let k = g.S.Sink in
    then_more k _ _ c.offer_later.ensures.took (then_stop k _ _ c.offer_later-2.ensures.took c.in_err-offer_later-2.ensures.goes)

pub returns-in_err-offer_later-3-clause-took : goal.returns-in_err-offer_later-3-clause-took
unfolding blocks
returns-in_err-offer_later-3-clause-took g c =
    let k = g.S.Sink in
    then_more k _ _ c.offer_later.ensures.took (then_more k _ _ c.offer_later-2.ensures.took (then_stop k _ _ c.offer_later-3.ensures.took c.in_err-offer_later-3.ensures.goes))

pub returns-clause-took : goal.returns-clause-took
unfolding blocks
returns-clause-took g c =
    let k = g.S.Sink in
    then_more k _ _ c.offer_later.ensures.took (then_more k _ _ c.offer_later-2.ensures.took (then_more k _ _ c.offer_later-3.ensures.took (then_more k _ _ c.offer_later-4.ensures.took (k.none _))))
