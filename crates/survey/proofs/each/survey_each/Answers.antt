use Rattle.std.proofs.Common.{arith, subst}
use Rattle.form.specs.Model.{blank_arg}
use Rattle.rules.specs.Told.{argument}
use Rattle.sinks.specs.Offers.{tests_told}
use Rattle.looks.specs.Records.{bare}
use Rattle.sinks.proofs.Walks.{walk_step, walk_end, walk_stop}
use Rattle.survey.proofs.each.survey_each.Goals as goal

pub loop-place-preserved : goal.loop-place-preserved
loop-place-preserved g c =
    let told = subst (λ r. g.S.Sink.after c.loop-place.sink (tests_told (argument c.loop-place.place) (g.R.ArgRules.tests c.args.rules.now (bare r))) c.offer.new.sink) c.arg.ensures c.offer.ensures.took in
    walk_step blank_arg (omega arith) c.loop-place.invariant told

pub returns-in_err-offer-clause-took : goal.returns-in_err-offer-clause-took
returns-in_err-offer-clause-took g c =
    let told = subst (λ r. g.S.Sink.after c.loop-place.sink (tests_told (argument c.loop-place.place) (g.R.ArgRules.tests c.args.rules.now (bare r))) c.offer.new.sink) c.arg.ensures c.offer.ensures.took in
    walk_stop blank_arg (omega arith) c.loop-place.invariant told c.in_err-offer.ensures.goes

pub returns-clause-took : goal.returns-clause-took
returns-clause-took g c = walk_end (omega arith) c.loop-place.invariant
