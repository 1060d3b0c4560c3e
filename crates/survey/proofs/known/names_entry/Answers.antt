use Rattle.std.proofs.Common.{◌≡◌, true, false, ◌||◌, map, sym, ap, ◌∙◌}
use Rattle.std.specs.Str.{bytes_eq}
use Rattle.form.specs.Model.{Group}
use Rattle.rules.specs.Order.{some}
use Rattle.rules.specs.Rows.{arg_ids}
use Rattle.survey.proofs.Searches.{some_append}
use Rattle.survey.proofs.known.names_entry.Goals as goal

pub returns-then-names_argument : goal.returns-then-names_argument
returns-then-names_argument g c =
    let f = g.F.FormSource.form c.args.form.now in
    let test = bytes_eq c.args.name.now in
    let found : some test (arg_ids f) ≡ true = sym c.names_argument.ensures ∙ c.if-names_argument.true in
    c.if-names_argument.true ∙ sym (some_append test (arg_ids f) (map (λ (x : Group). x.id) f.groups) ∙ ap (λ b. b || some test (map (λ (x : Group). x.id) f.groups)) found)

pub returns-else-names_argument : goal.returns-else-names_argument
returns-else-names_argument g c =
    let f = g.F.FormSource.form c.args.form.now in
    let test = bytes_eq c.args.name.now in
    let absent : some test (arg_ids f) ≡ false = sym c.names_argument.ensures ∙ c.if-names_argument.false in
    c.names_group.ensures ∙ sym (some_append test (arg_ids f) (map (λ (x : Group). x.id) f.groups) ∙ ap (λ b. b || some test (map (λ (x : Group). x.id) f.groups)) absent)
