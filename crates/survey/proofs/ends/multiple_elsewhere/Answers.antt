use Rattle.std.proofs.Common.{rules, ap, ◌∙◌}
use borrow.Author.Tests.{tests}
use Rattle.rules.specs.Order.{some}
use Rattle.survey.specs.Ends.{is_elsewhere}
use Rattle.form.specs.Model.{blank_arg}
use Rattle.survey.proofs.Searches.{any_is}
use Rattle.survey.proofs.ends.multiple_elsewhere.Goals as goal

pub returns : goal.returns
returns g c =
    let args = (g.F.FormSource.form c.args.form.now).args in
    any_is (is_elsewhere c.count_positions-highest.result.highest) args blank_arg _ _ _ _ c.arg_count.ensures c.any.ensures.ran (λ x q k. search (rules, tests)) (λ x q k. search (rules, tests))
    ∙ ap (λ h. some (is_elsewhere h) args) c.count_positions-highest.ensures.highest
