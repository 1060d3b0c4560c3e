-- Numbers of fewer bits, and the codes of letters.
use Rattle.std.specs.Prelude.{ℕ, cond, ◌&&◌, List, length, drop, Some, None, Option, ◌==◌, nat_le, nat_lt, slice_index}
use Rattle.notation.specs.Digits.{number_in, count_written}

-- the number, where it is below the limit
abbrev pub below : ℕ → Option ℕ → Option ℕ
below limit None = None
below limit (Some n) = cond (nat_lt n limit) (Some n) None

-- a number below the limit, in decimal digits or behind 0x in hexadecimal ones
abbrev pub count_written_below : ℕ → List ℕ → Option ℕ
count_written_below limit s = below limit (count_written s)

-- hexadecimal digits of a number below the limit
abbrev pub narrowed : ℕ → List ℕ → Option ℕ
narrowed limit s = below limit (number_in 16 s)

-- the code of a letter: U+ (codes 85 and 43) and at most eight hexadecimal digits
abbrev pub letter_written : List ℕ → Option ℕ
letter_written s =
    cond (slice_index s 0 == 85 && (slice_index s 1 == 43 && nat_le (length (drop 2 s)) 8))
    (narrowed 4294967296 (drop 2 s))
    None
