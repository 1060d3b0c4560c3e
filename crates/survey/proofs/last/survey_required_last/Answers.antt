use Rattle.std.proofs.Common.{◌&&◌, [], ◌∷◌, refl, ap}
use Rattle.form.specs.Settings.{arg_set}
use Rattle.form.specs.declared.arg_settings.ArgSettings.TheVariants.{Required}
use Rattle.rules.specs.Rows.{whole, positional_last, required_last}
use Rattle.rules.specs.declared.rule.Rule.TheVariants.{RequiredLastWithSubcommands}
use Rattle.survey.proofs.Tables.{each_by}
use Rattle.survey.proofs.last.survey_required_last.Goals as goal

pub returns-clause-took : goal.returns-clause-took
returns-clause-took g c =
    each_by g.S.Sink.after _ _ (g.F.FormSource.form c.args.form.now) (λ a. ((positional_last a && arg_set a.settings Required) && c.is_commanded.result, RequiredLastWithSubcommands) ∷ []) (whole RequiredLastWithSubcommands required_last ∷ [])
    (λ a. ((ap (λ b. (positional_last a && arg_set a.settings Required) && b) c.is_commanded.ensures, refl), tt))
    c.survey_each.ensures.took
