use Rattle.std.proofs.Common.{refl, ap, ◌∙◌}
use Rattle.survey.specs.Parts.{after_rows}
use Rattle.survey.proofs.Tables.{told_by}
use Rattle.looks.specs.Records.{bare}
use Rattle.rules.specs.Rows.{last_with_long, last_with_letter, required_global}
use Rattle.survey.proofs.arg_at.ArgAt.offer_after_rules.Goals as goal

pub returns-clause-took : goal.returns-clause-took
returns-clause-took g c =
    let shows = c.args.self.now.shows in
    told_by g.S.Sink.after _ _ _ (g.F.FormSource.form c.args.self.now.form.now) c.args.self.now.place _ after_rows c.entry.ensures c.offer_tests.ensures.took
    ((c.last_with_long.ensures ∙ ap (λ r. last_with_long (bare r)) shows, refl), ((c.last_with_letter.ensures ∙ ap (λ r. last_with_letter (bare r)) shows, refl), ((c.required_global.ensures ∙ ap (λ r. required_global (bare r)) shows, refl), tt)))
