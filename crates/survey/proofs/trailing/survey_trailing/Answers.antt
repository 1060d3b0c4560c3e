use Rattle.std.proofs.Common.{not, ◌&&◌, eqb, refl, ap}
use Rattle.form.specs.Settings.{arg_set}
use Rattle.form.specs.declared.arg_settings.ArgSettings.TheVariants.{TrailingVarArg, Last}
use Rattle.rules.specs.Words.{index_or_0}
use Rattle.rules.specs.Rows.{multiple, trailing_rows}
use Rattle.survey.specs.Trailing.{trailing_tests}
use Rattle.survey.proofs.Tables.{each_by}
use Rattle.survey.proofs.trailing.survey_trailing.Goals as goal

pub returns-clause-took : goal.returns-clause-took
returns-clause-took g c =
    let high = c.count_positions.ensures.highest in
    each_by g.S.Sink.after _ _ (g.F.FormSource.form c.args.form.now) (trailing_tests c.count_positions.result.highest) trailing_rows
    (λ a. (
      (ap (λ h. arg_set a.settings TrailingVarArg && (eqb (index_or_0 a.index) h && arg_set a.settings Last)) high, refl),
      (
        (ap (λ h. arg_set a.settings TrailingVarArg && (eqb (index_or_0 a.index) h && not (multiple a))) high, refl),
        ((ap (λ h. arg_set a.settings TrailingVarArg && not (eqb (index_or_0 a.index) h)) high, refl), tt),
      ),
    ))
    c.survey_each.ensures.took
