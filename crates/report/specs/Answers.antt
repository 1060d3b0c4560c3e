-- What report and first answer, from the list of the breaches.
use Rattle.std.specs.Prelude.{ℕ, cond, List, [], ◌∷◌, ◌++◌, length, drop, Some, None, Ok, Err, Option, Result, nat_lt}
use Rattle.rules.specs.declared.breach.Breach.{Breach}
use Rattle.report.specs.declared.short.ListShort.{ListShort}

-- the number of breaches, or that the list is shorter, with that number
abbrev pub report_answer : List Breach → ℕ → Result ℕ ListShort
report_answer bs room = cond (nat_lt room (length bs)) (Err (record { needed = length bs })) (Ok (length bs))

-- the list then: the breaches at its front and the rest as it was, or all as it was
abbrev pub reported : List Breach → List Breach → List Breach
reported bs room = cond (nat_lt (length room) (length bs)) room (bs ++ drop (length bs) room)

-- the first of a list, if there is one
abbrev pub first_of : List Breach → Option Breach
first_of [] = None
first_of (b ∷ bs) = Some b
