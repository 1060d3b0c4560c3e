-- The tests on an argument that takes all that trails, the highest position being known.
use Rattle.std.specs.Prelude.{ℕ, Bool, not, ◌&&◌, List, [], ◌∷◌, ◌==◌}
use Rattle.form.specs.Model.{Arg}
use Rattle.form.specs.Settings.{arg_set}
use Rattle.form.specs.declared.arg_settings.ArgSettings.TheVariants.{TrailingVarArg, Last}
use Rattle.rules.specs.Rows.{multiple}
use Rattle.rules.specs.Words.{index_or_0}
use Rattle.rules.specs.declared.rule.Rule.{Rule}
use Rattle.rules.specs.declared.rule.Rule.TheVariants.{TrailingLast, TrailingNotMultiple, TrailingElsewhere}

abbrev pub trailing_tests : ℕ → Arg → List (Bool × Rule)
trailing_tests h a =
    (arg_set a.settings TrailingVarArg && (index_or_0 a.index == h && arg_set a.settings Last), TrailingLast)
    ∷ (arg_set a.settings TrailingVarArg && (index_or_0 a.index == h && not (multiple a)), TrailingNotMultiple)
    ∷ (arg_set a.settings TrailingVarArg && not (index_or_0 a.index == h), TrailingElsewhere)
    ∷ []
