use Rattle.std.proofs.Common.{not, ◌&&◌, [], ◌∷◌, refl, ap, ◌∙◌}
use Rattle.form.specs.Settings.{app_set}
use Rattle.form.specs.declared.app_settings.AppSettings.TheVariants.{HasVersion}
use Rattle.rules.specs.Rows.{whole, is_version, version_without_version}
use Rattle.rules.specs.declared.rule.Rule.TheVariants.{VersionActionWithoutVersion}
use Rattle.survey.proofs.Tables.{each_by}
use Rattle.survey.proofs.version.survey_versions.Goals as goal

pub returns-clause-took : goal.returns-clause-took
returns-clause-took g c =
    each_by g.S.Sink.after _ _ (g.F.FormSource.form c.args.form.now) (λ a. (is_version a && not c.is_set.result, VersionActionWithoutVersion) ∷ []) (whole VersionActionWithoutVersion version_without_version ∷ [])
    (λ a. ((ap (λ b. is_version a && not b) (c.is_set.ensures ∙ ap (λ n. app_set n HasVersion) c.settings.ensures), refl), tt))
    c.survey_each.ensures.took
