use Rattle.std.proofs.Common.{refl, ap, ◌∙◌}
use Rattle.survey.specs.Parts.{value_rows}
use Rattle.survey.proofs.Tables.{told_by}
use Rattle.looks.specs.Records.{bare}
use Rattle.rules.specs.Rows.{too_many_values, index_with_flag, index_zero, index_without_value, positional_without_index, range_unset, equals_with_many}
use Rattle.survey.proofs.arg_at.ArgAt.offer_value_rules.Goals as goal

pub returns-clause-took : goal.returns-clause-took
returns-clause-took g c =
    let shows = c.args.self.now.shows in
    told_by g.S.Sink.after _ _ _ (g.F.FormSource.form c.args.self.now.form.now) c.args.self.now.place _ value_rows c.entry.ensures c.offer_tests.ensures.took
    ((c.too_many_values.ensures ∙ ap (λ r. too_many_values (bare r)) shows, refl), ((c.index_with_flag.ensures ∙ ap (λ r. index_with_flag (bare r)) shows, refl), ((c.index_zero.ensures ∙ ap (λ r. index_zero (bare r)) shows, refl), ((c.index_without_value.ensures ∙ ap (λ r. index_without_value (bare r)) shows, refl), ((c.positional_without_index.ensures ∙ ap (λ r. positional_without_index (bare r)) shows, refl), ((c.range_unset.ensures ∙ ap (λ r. range_unset (bare r)) shows, refl), ((c.equals_with_many.ensures ∙ ap (λ r. equals_with_many (bare r)) shows, refl), tt)))))))
