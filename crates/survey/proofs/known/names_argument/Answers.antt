use Rattle.std.proofs.Common.{rules, ◌∙◌, sym, ◌∙◌}
use borrow.Author.Tests.{tests}
use Rattle.std.specs.Str.{bytes_eq}
use Rattle.form.specs.Model.{Arg}
use Rattle.form.specs.Model.{blank_arg}
use Rattle.survey.proofs.Searches.{any_is, some_map}
use Rattle.survey.proofs.known.names_argument.Goals as goal

pub returns : goal.returns
returns g c =
    let args = (g.F.FormSource.form c.args.form.now).args in
    any_is (λ x. bytes_eq c.args.name.now x.id) args blank_arg _ _ _ _ c.arg_count.ensures c.any.ensures.ran (λ x q k. search (rules, tests)) (λ x q k. search (rules, tests))
    ∙ sym (some_map (bytes_eq c.args.name.now) (λ (x : Arg). x.id) args)
