-- The refusals and their numbers.
use Rattle.std.specs.Prelude.{ℕ}
use Rattle.form.specs.declared.refusal.NoSuchCode.{NoSuchCode}
use Rattle.form.specs.declared.refusal.Refusal.{Refusal}
use Rattle.form.specs.declared.refusal.Refusal.TheVariants.{RangeOrder, NameLength, NoScalar, TableFull, MarksSpent, NoSuchMark, WrongList, RowsTaken, ListShort, NoSuchKey, NoTrailer, BodyTooLong, WrongLength, UnknownCode, ItemFirst, BeyondLimits}

-- the number of a refusal
abbrev pub refusal_number : Refusal → ℕ
refusal_number RangeOrder = 101
refusal_number NameLength = 102
refusal_number NoScalar = 103
refusal_number TableFull = 104
refusal_number MarksSpent = 105
refusal_number NoSuchMark = 106
refusal_number WrongList = 107
refusal_number RowsTaken = 108
refusal_number ListShort = 109
refusal_number NoSuchKey = 110
refusal_number NoTrailer = 111
refusal_number BodyTooLong = 112
refusal_number WrongLength = 113
refusal_number UnknownCode = 114
refusal_number ItemFirst = 115
refusal_number BeyondLimits = 116

-- the fault of a number that no case has
abbrev pub no_such_code : NoSuchCode
no_such_code = record {}
