use Rattle.std.proofs.Common.{ap, ◌∙◌, arith}
use Rattle.form.specs.Model.{blank_subcommand}
use Rattle.rules.specs.Rows.{dashed}
use Rattle.sinks.proofs.Walks.{walk_step, walk_end, walk_stop}
use Rattle.survey.proofs.subcommands.survey_dashed_flags.Goals as goal

pub loop-place-preserved : goal.loop-place-preserved
loop-place-preserved g c =
    let is = c.is_dashed-broken.ensures ∙ ap (λ r. dashed r.long) c.subcommand.ensures in
    walk_step blank_subcommand (omega arith) c.loop-place.invariant (rw (is, c.of_one.ensures, c.subcommand_at.ensures) at c.offer_if.ensures.took)

pub returns-in_err-offer_if-clause-took : goal.returns-in_err-offer_if-clause-took
returns-in_err-offer_if-clause-took g c =
    let is = c.is_dashed-broken.ensures ∙ ap (λ r. dashed r.long) c.subcommand.ensures in
    walk_stop blank_subcommand (omega arith) c.loop-place.invariant (rw (is, c.of_one.ensures, c.subcommand_at.ensures) at c.offer_if.ensures.took) c.in_err-offer_if.ensures.goes

pub returns-clause-took : goal.returns-clause-took
returns-clause-took g c = walk_end (omega arith) c.loop-place.invariant
