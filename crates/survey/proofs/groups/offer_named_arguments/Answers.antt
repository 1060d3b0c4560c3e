use Rattle.std.proofs.Common.{ap}
use Rattle.std.specs.Str.{bytes_eq}
use Rattle.rules.specs.Rows.{arg_of, id_of_argument}
use Rattle.rules.specs.declared.rule.Rule.TheVariants.{GroupIdOfArgument}
use Rattle.survey.proofs.Pairs.{with_argument_by}
use Rattle.survey.proofs.groups.offer_named_arguments.Goals as goal

pub returns-clause-took : goal.returns-clause-took
returns-clause-took g c =
    let f = g.F.FormSource.form c.args.form.now in
    with_argument_by g.S.Sink.after _ _ f c.args.place _ _ GroupIdOfArgument id_of_argument _ c.group_at.ensures c.arg_count.ensures
    (λ j. ap (λ x. bytes_eq x (arg_of f j).id) c.group.ensures) c.offer_same.ensures.took
