-- Numbers in the digits of a base.
use Rattle.std.specs.Prelude.{ℕ, ◌+◌, ◌-◌, ◌*◌, cond, ◌&&◌, List, [], ◌∷◌, drop, Some, None, Option, ◌==◌, nat_le, nat_lt, slice_index}

-- what a digit is worth: 0 to 9, then a to f or A to F for 10 to 15; any other byte has 16, which is a digit of no base up to 16
abbrev pub digit_value : ℕ → ℕ
digit_value c = cond (nat_le 48 c && nat_le c 57) (c - 48) (cond (nat_le 97 c && nat_le c 102) (c - 97 + 10) (cond (nat_le 65 c && nat_le c 70) (c - 65 + 10) 16))

-- n with one digit more, where the byte is a digit of the base and the number fits 64 bits
abbrev pub more_digits_in : ℕ → ℕ → ℕ → Option ℕ
more_digits_in base n c = cond (nat_lt (digit_value c) base && nat_lt (n * base + digit_value c) 18446744073709551616) (Some (n * base + digit_value c)) None

-- n with these digits more
unfoldable pub digits_from : ℕ → Option ℕ → List ℕ → Option ℕ
digits_from base None cs = None
digits_from base (Some n) [] = Some n
digits_from base (Some n) (c ∷ cs) = digits_from base (more_digits_in base n c) cs

-- the number of a text in the base: at least one byte, all of them digits
abbrev pub number_in : ℕ → List ℕ → Option ℕ
number_in base [] = None
number_in base (c ∷ cs) = digits_from base (Some 0) (c ∷ cs)

-- in decimal digits, or behind 0x in hexadecimal ones (code 48 is 0, code 120 is x)
abbrev pub count_written : List ℕ → Option ℕ
count_written s = cond (slice_index s 0 == 48 && slice_index s 1 == 120) (number_in 16 (drop 2 s)) (number_in 10 s)
