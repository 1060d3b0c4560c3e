-- What the two ends of the positions tell.
use Rattle.std.specs.Prelude.{ℕ, Bool, not, ◌&&◌, List, ◌++◌, ◌==◌, nat_lt}
use Rattle.form.specs.Model.{Arg, Form}
use Rattle.form.specs.Settings.{arg_set}
use Rattle.form.specs.declared.arg_settings.ArgSettings.TheVariants.{Last}
use Rattle.rules.specs.declared.rule.Rule.{Rule}
use Rattle.rules.specs.declared.rule.Rule.TheVariants.{OpenBeforeOptional, MultipleElsewhere, TooManyMultiple}
use Rattle.rules.specs.declared.breach.Breach.{Breach}
use Rattle.rules.specs.Order.{when}
use Rattle.rules.specs.Told.{argument, of_two}
use Rattle.rules.specs.Words.{index_or_0}
use Rattle.rules.specs.Rows.{arg_of, positional, multiple, open_ended, wide, at_ends, open_before_optional, multiple_low, too_many_wide}
use Rattle.rules.specs.Report.{section_report}

-- positional and multiple, at another position than the highest
abbrev pub is_elsewhere : ℕ → Arg → Bool
is_elsewhere highest a = positional a && (multiple a && not (index_or_0 a.index == highest))

-- positional, open and not terminated, below the position
abbrev pub is_open_below : ℕ → Arg → Bool
is_open_below n a = positional a && (nat_lt (index_or_0 a.index) n && (not a.terminated && open_ended a))

-- the two can both be wide
abbrev pub paired : Arg → Arg → Bool
paired l s = wide l && (arg_set l.settings Last && multiple s)

-- what a rule tells of the arguments at p and q
abbrev pub end_told : Rule → (Form → Arg → Arg → Bool) → Form → ℕ → ℕ → List Breach
end_told r c f p q = when (c f (arg_of f p) (arg_of f q)) (of_two r (argument p) (argument q))

abbrev pub ends_told : Form → ℕ → ℕ → List Breach
ends_told f p q =
    end_told OpenBeforeOptional open_before_optional f p q
    ++ (end_told MultipleElsewhere multiple_low f p q ++ end_told TooManyMultiple too_many_wide f p q)

-- the three sections of a report on the two ends
abbrev pub ends_report : Form → List Breach
ends_report f =
    section_report f (at_ends OpenBeforeOptional open_before_optional)
    ++ (section_report f (at_ends MultipleElsewhere multiple_low) ++ section_report f (at_ends TooManyMultiple too_many_wide))
