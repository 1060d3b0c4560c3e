use Rattle.std.proofs.Common.{rules, ◌∙◌, sym, ◌∙◌}
use borrow.Author.Tests.{tests}
use Rattle.std.specs.Str.{bytes_eq}
use Rattle.form.specs.Model.{Group}
use Rattle.form.specs.Model.{blank_group}
use Rattle.survey.proofs.Searches.{any_is, some_map}
use Rattle.survey.proofs.known.names_group.Goals as goal

pub returns : goal.returns
returns g c =
    let groups = (g.F.FormSource.form c.args.form.now).groups in
    any_is (λ x. bytes_eq c.args.name.now x.id) groups blank_group _ _ _ _ c.group_count.ensures c.any.ensures.ran (λ x q k. search (rules, tests)) (λ x q k. search (rules, tests))
    ∙ sym (some_map (bytes_eq c.args.name.now) (λ (x : Group). x.id) groups)
