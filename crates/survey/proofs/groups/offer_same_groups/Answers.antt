use Rattle.std.proofs.Common.{ap, arith}
use Rattle.std.specs.Str.{bytes_eq}
use Rattle.rules.specs.Rows.{same_group_id}
use Rattle.rules.specs.declared.rule.Rule.TheVariants.{SameGroupId}
use Rattle.survey.specs.Groups.{group_of}
use Rattle.survey.proofs.Pairs.{later_group_by}
use Rattle.survey.proofs.groups.offer_same_groups.Goals as goal

pub overflow_add-place : goal.overflow_add-place
overflow_add-place g c = omega (arith, (g.F.FormSource.fits c.args.form.now).groups)

pub returns-clause-took : goal.returns-clause-took
returns-clause-took g c =
    let f = g.F.FormSource.form c.args.form.now in
    later_group_by g.S.Sink.after _ _ f c.args.place _ _ SameGroupId same_group_id _ c.group_at.ensures c.group_count.ensures
    (λ j. ap (λ x. bytes_eq x (group_of f j).id) c.group.ensures) c.offer_same.ensures.took
