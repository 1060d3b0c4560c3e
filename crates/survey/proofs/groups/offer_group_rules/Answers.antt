use Rattle.std.proofs.Common.{rules}
use Rattle.rules.specs.Order.{blocks}
use Rattle.rules.specs.Rows.{arg_ids, ids}
use Rattle.sinks.proofs.Walks.{then_more, then_stop}
use Rattle.survey.proofs.groups.offer_group_rules.Goals as goal

pub returns-in_err-offer_same_groups-clause-took : goal.returns-in_err-offer_same_groups-clause-took
unfolding blocks
returns-in_err-offer_same_groups-clause-took g c =
    let k = g.S.Sink in
    let f = g.F.FormSource.form c.args.form.now in
    then_stop k _ _ c.offer_same_groups.ensures.took c.in_err-offer_same_groups.ensures.goes

pub returns-in_err-offer_named_arguments-clause-took : goal.returns-in_err-offer_named_arguments-clause-took
unfolding blocks
returns-in_err-offer_named_arguments-clause-took g c =
    let k = g.S.Sink in
    let f = g.F.FormSource.form c.args.form.now in
    then_more k _ _ c.offer_same_groups.ensures.took (then_stop k _ _ c.offer_named_arguments.ensures.took c.in_err-offer_named_arguments.ensures.goes)

pub returns-in_err-offer_missing-clause-took : goal.returns-in_err-offer_missing-clause-took
unfolding blocks
returns-in_err-offer_missing-clause-took g c =
    let k = g.S.Sink in
    let f = g.F.FormSource.form c.args.form.now in
    then_more k _ _ c.offer_same_groups.ensures.took (then_more k _ _ c.offer_named_arguments.ensures.took (then_stop k _ _ (c.offer_missing.ensures.took (arg_ids f) (λ x b q. search rules)) c.in_err-offer_missing.ensures.goes))

pub returns-in_err-offer_missing-2-clause-took : goal.returns-in_err-offer_missing-2-clause-took
unfolding blocks
returns-in_err-offer_missing-2-clause-took g c =
    let k = g.S.Sink in
    let f = g.F.FormSource.form c.args.form.now in
    then_more k _ _ c.offer_same_groups.ensures.took (then_more k _ _ c.offer_named_arguments.ensures.took (then_more k _ _ (c.offer_missing.ensures.took (arg_ids f) (λ x b q. search rules)) (then_stop k _ _ (c.offer_missing-2.ensures.took (ids f) (λ x b q. search rules)) c.in_err-offer_missing-2.ensures.goes)))

pub returns-clause-took : goal.returns-clause-took
unfolding blocks
returns-clause-took g c =
    let k = g.S.Sink in
    let f = g.F.FormSource.form c.args.form.now in
    then_more k _ _ c.offer_same_groups.ensures.took (then_more k _ _ c.offer_named_arguments.ensures.took (then_more k _ _ (c.offer_missing.ensures.took (arg_ids f) (λ x b q. search rules)) (then_more k _ _ (c.offer_missing-2.ensures.took (ids f) (λ x b q. search rules)) (then_more k _ _ (c.offer_missing-3.ensures.took (ids f) (λ x b q. search rules)) (k.none _)))))
