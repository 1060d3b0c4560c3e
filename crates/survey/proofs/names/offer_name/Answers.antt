use Rattle.std.proofs.Common.{sym, subst, arith}
use Rattle.form.specs.Model.{blank_subcommand}
use Rattle.rules.specs.Report.{taken_report}
use Rattle.survey.specs.Called.{name_of}
use Rattle.survey.proofs.TakenNames.{up_to_length, up_to_at}
use Rattle.sinks.proofs.Walks.{walk_step, walk_end, walk_stop}
use Rattle.survey.proofs.names.offer_name.Goals as goal
use Rattle.survey.proofs.names.offer_name.Goals.{else-loop-place-test, then-loop-place-test+in_ok-offer_taken+else-place-later}

pub loop-place-preserved : goal.loop-place-preserved
loop-place-preserved g c =
    let f = g.F.FormSource.form c.args.form.now in
    let p = c.args.later in
    let q = c.loop-place.place in
    let here = subst (λ t. g.S.Sink.after c.loop-place.sink (taken_report p c.args.item (name_of f p c.args.item) q t) c.offer_taken.new.sink) (sym (up_to_at f p q (omega arith))) c.offer_taken.ensures.took in
    walk_step blank_subcommand (rw (up_to_length f p c.requires) (omega arith)) c.loop-place.invariant here

pub returns-in_err-offer_taken-clause-took : goal.returns-in_err-offer_taken-clause-took
returns-in_err-offer_taken-clause-took g c =
    let f = g.F.FormSource.form c.args.form.now in
    let p = c.args.later in
    let q = c.loop-place.place in
    let here = subst (λ t. g.S.Sink.after c.loop-place.sink (taken_report p c.args.item (name_of f p c.args.item) q t) c.offer_taken.new.sink) (sym (up_to_at f p q (omega arith))) c.offer_taken.ensures.took in
    walk_stop blank_subcommand (rw (up_to_length f p c.requires) (omega arith)) c.loop-place.invariant here c.in_err-offer_taken.ensures.goes

pub returns-clause-took : goal.returns-clause-took
returns-clause-took g c =
    let f = g.F.FormSource.form c.args.form.now in
    let p = c.args.later in
    let q = c.loop-place.place in
    elim c.loop-place-test.branch [
      | else-loop-place-test w ↦ absurd (omega (arith, w.loop-place-test.false))
      | then-loop-place-test+in_ok-offer_taken+else-place-later w ↦
          let here = subst (λ t. g.S.Sink.after c.loop-place.sink (taken_report p c.args.item (name_of f p c.args.item) q t) c.loop-place-test.sink) (sym (up_to_at f p q (omega arith))) (rw w.sink-is w.offer_taken.ensures.took) in
          walk_end (rw (up_to_length f p c.requires) (omega arith)) (walk_step blank_subcommand (rw (up_to_length f p c.requires) (omega arith)) c.loop-place.invariant here)
    ]
