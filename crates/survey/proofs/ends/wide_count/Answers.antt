use Rattle.std.proofs.Common.{rules, get_or, arith, ◌∙◌}
use borrow.Author.Tests.{tests}
use Rattle.std.proofs.lemmas.Iterator.{YieldsList-from_range}
use Rattle.std.proofs.lemmas.Iterator.Consumers.{count_from_yields_List, YieldsList-from_filter}
use Rattle.form.specs.Model.{blank_arg}
use Rattle.rules.specs.Rows.{wide}
use Rattle.survey.proofs.Searches.{filter_places}
use Rattle.survey.proofs.ends.wide_count.Goals as goal

pub returns : goal.returns
returns g c =
    let args = (g.F.FormSource.form c.args.form.now).args in
    count_from_yields_List _ _ c.count.ensures.ran
    (YieldsList-from_filter _ (λ j. wide (get_or args j blank_arg)) (YieldsList-from_range 0 c.arg_count.result c.arg_count.result c.filter.ensures.source (omega arith)) c.filter.ensures.closure (λ x r q k. search (rules, tests)))
    ∙ filter_places wide args blank_arg c.arg_count.result c.arg_count.ensures
