use Rattle.std.proofs.Common.{refl, ap, ◌∙◌}
use Rattle.survey.specs.Parts.{name_rows}
use Rattle.survey.proofs.Tables.{told_by}
use Rattle.form.specs.Settings.{app_set}
use Rattle.form.specs.declared.app_settings.AppSettings.TheVariants.{Multicall}
use Rattle.rules.specs.Rows.{dashed}
use Rattle.survey.proofs.arg_at.ArgAt.offer_name_rules.Goals as goal

pub returns-clause-took : goal.returns-clause-took
returns-clause-took g c =
    let shows = c.args.self.now.shows in
    told_by g.S.Sink.after _ _ _ (g.F.FormSource.form c.args.self.now.form.now) c.args.self.now.place _ name_rows c.entry.ensures c.offer_tests.ensures.took
    ((c.is_set-multicall.ensures ∙ ap (λ b. app_set b Multicall) c.settings.ensures, refl), ((c.is_dashed.ensures ∙ ap (λ r. dashed r.long) shows, refl), tt))
