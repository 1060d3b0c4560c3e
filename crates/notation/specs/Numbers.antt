-- Numbers in decimal digits.
use Rattle.std.specs.Prelude.{ℕ, ◌+◌, ◌-◌, ◌*◌, Bool, cond, ◌&&◌, List, [], ◌∷◌, Some, None, Option, nat_le, nat_lt}

-- the byte is one of 0 to 9
abbrev pub is_digit : ℕ → Bool
is_digit c = nat_le 48 c && nat_le c 57

-- n with one digit more, where the byte is a digit and the number fits 64 bits
abbrev pub more_digits : ℕ → ℕ → Option ℕ
more_digits n c = cond (is_digit c && nat_lt (n * 10 + (c - 48)) 18446744073709551616) (Some (n * 10 + (c - 48))) None

-- n with these digits more
unfoldable pub number_from : Option ℕ → List ℕ → Option ℕ
number_from None cs = None
number_from (Some n) [] = Some n
number_from (Some n) (c ∷ cs) = number_from (more_digits n c) cs

-- the number of a text: at least one byte, all of them digits
abbrev pub number : List ℕ → Option ℕ
number [] = None
number (c ∷ cs) = number_from (Some 0) (c ∷ cs)
