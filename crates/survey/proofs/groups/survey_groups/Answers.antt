use Rattle.std.proofs.Common.{arith}
use Rattle.form.specs.Model.{blank_group}
use Rattle.sinks.proofs.Walks.{walk_step, walk_end, walk_stop}
use Rattle.survey.proofs.groups.survey_groups.Goals as goal

pub loop-place-preserved : goal.loop-place-preserved
loop-place-preserved g c =
    walk_step blank_group (omega arith) c.loop-place.invariant c.offer_group_rules.ensures.took

pub returns-in_err-offer_group_rules-clause-took : goal.returns-in_err-offer_group_rules-clause-took
returns-in_err-offer_group_rules-clause-took g c =
    walk_stop blank_group (omega arith) c.loop-place.invariant c.offer_group_rules.ensures.took c.in_err-offer_group_rules.ensures.goes

pub returns-clause-took : goal.returns-clause-took
returns-clause-took g c = walk_end (omega arith) c.loop-place.invariant
