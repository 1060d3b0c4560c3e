use Rattle.std.proofs.Common.{arith}
use Rattle.form.specs.Model.{blank_arg}
use Rattle.rules.specs.Rows.{later, two_last}
use Rattle.rules.specs.declared.rule.Rule.TheVariants.{TwoLast}
use Rattle.survey.proofs.Tables.{row_alone}
use Rattle.sinks.proofs.Walks.{walk_step, walk_end, walk_stop}
use Rattle.survey.proofs.last.survey_two_last.Goals as goal

pub loop-place-preserved : goal.loop-place-preserved
loop-place-preserved g c =
    let f = g.F.FormSource.form c.args.form.now in
    let here = row_alone g.S.Sink.after _ _ f c.loop-place.place (later TwoLast two_last) (rw (c.new.ensures.form, c.new.ensures.place) at c.offer_later.ensures.took) in
    walk_step blank_arg (omega arith) c.loop-place.invariant here

pub returns-in_err-offer_later-clause-took : goal.returns-in_err-offer_later-clause-took
returns-in_err-offer_later-clause-took g c =
    let f = g.F.FormSource.form c.args.form.now in
    let here = row_alone g.S.Sink.after _ _ f c.loop-place.place (later TwoLast two_last) (rw (c.new.ensures.form, c.new.ensures.place) at c.offer_later.ensures.took) in
    walk_stop blank_arg (omega arith) c.loop-place.invariant here c.in_err-offer_later.ensures.goes

pub returns-clause-took : goal.returns-clause-took
returns-clause-took g c = walk_end (omega arith) c.loop-place.invariant
