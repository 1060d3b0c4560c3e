-- Settings are numbers whose bits have names.
use Rattle.std.specs.Prelude.{ℕ, ◌/◌, ◌%◌, ◌^◌, ◌<◌, Bool, ◌==◌}
use Rattle.std.proofs.Common.{arith}
use Rattle.form.specs.declared.arg_settings.ArgSettings.{ArgSettings}
use Rattle.form.specs.declared.arg_settings.ArgSettings.TheVariants.{Required, Global, Hidden, NextLineHelp, HidePossibleValues, AllowHyphenValues, AllowNegativeNumbers, RequireEquals, Last, TrailingVarArg, HideDefaultValue, IgnoreCase}
use Rattle.form.specs.declared.app_settings.AppSettings.{AppSettings}
use Rattle.form.specs.declared.app_settings.AppSettings.TheVariants.{Multicall, NoBinaryName, PropagateVersion, SubcommandsNegateReqs, DisableHelpFlag, DisableVersionFlag, HasVersion}

-- whether bit k of the number is 1
abbrev pub bit : ℕ → ℕ → Bool
bit n k = n / 2 ^ k % 2 == 1

-- the bit of a setting of an argument
abbrev pub arg_bit : ArgSettings → ℕ
arg_bit Required = 0
arg_bit Global = 1
arg_bit Hidden = 2
arg_bit NextLineHelp = 3
arg_bit HidePossibleValues = 4
arg_bit AllowHyphenValues = 5
arg_bit AllowNegativeNumbers = 6
arg_bit RequireEquals = 7
arg_bit Last = 8
arg_bit TrailingVarArg = 9
arg_bit HideDefaultValue = 10
arg_bit IgnoreCase = 11

-- the bit of a setting of a form
abbrev pub app_bit : AppSettings → ℕ
app_bit Multicall = 0
app_bit NoBinaryName = 1
app_bit PropagateVersion = 2
app_bit SubcommandsNegateReqs = 3
app_bit DisableHelpFlag = 4
app_bit DisableVersionFlag = 5
app_bit HasVersion = 6

-- an argument's settings have this one
abbrev pub arg_set : ℕ → ArgSettings → Bool
arg_set n s = bit n (arg_bit s)

-- a form's settings have this one
abbrev pub app_set : ℕ → AppSettings → Bool
app_set n s = bit n (app_bit s)

-- what is kept of any number given as settings, where bits 0 to n - 1 have a name
abbrev pub kept : ℕ → ℕ → ℕ
kept n bits = bits % 2 ^ n

-- the named bits: 0 to 11 of an argument's and 0 to 6 of a form's
abbrev pub arg_kept : ℕ → ℕ
arg_kept n = n % 2 ^ 12

abbrev pub app_kept : ℕ → ℕ
app_kept n = n % 2 ^ 7

-- each bit is one of 16
pub arg_bit_within : (s : ArgSettings) → arg_bit s < 16
arg_bit_within Required = omega arith
arg_bit_within Global = omega arith
arg_bit_within Hidden = omega arith
arg_bit_within NextLineHelp = omega arith
arg_bit_within HidePossibleValues = omega arith
arg_bit_within AllowHyphenValues = omega arith
arg_bit_within AllowNegativeNumbers = omega arith
arg_bit_within RequireEquals = omega arith
arg_bit_within Last = omega arith
arg_bit_within TrailingVarArg = omega arith
arg_bit_within HideDefaultValue = omega arith
arg_bit_within IgnoreCase = omega arith

pub app_bit_within : (s : AppSettings) → app_bit s < 16
app_bit_within Multicall = omega arith
app_bit_within NoBinaryName = omega arith
app_bit_within PropagateVersion = omega arith
app_bit_within SubcommandsNegateReqs = omega arith
app_bit_within DisableHelpFlag = omega arith
app_bit_within DisableVersionFlag = omega arith
app_bit_within HasVersion = omega arith
