use Rattle.std.proofs.Common.{rules}
use borrow.Author.Tests.{tests}
use Rattle.survey.specs.Ends.{is_open_below}
use Rattle.form.specs.Model.{blank_arg}
use Rattle.survey.proofs.Searches.{any_is}
use Rattle.survey.proofs.ends.open_below.Goals as goal

pub returns : goal.returns
returns g c =
    let args = (g.F.FormSource.form c.args.form.now).args in
    any_is (is_open_below c.args.position) args blank_arg _ _ _ _ c.arg_count.ensures c.any.ensures.ran (λ x q k. search (rules, tests)) (λ x q k. search (rules, tests))
