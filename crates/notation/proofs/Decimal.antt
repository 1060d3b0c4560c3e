-- Decimal digits are the digits of the base 10.
use Rattle.std.proofs.Common.{◌≡◌, ℕ, List, [], ◌∷◌, Some, None, Option, refl, ap, ◌∙◌, arith}
use Rattle.std.proofs.lemmas.Bool.Decides.{nat_tests}
use Rattle.notation.specs.Numbers.{more_digits, number_from, number}
use Rattle.notation.specs.Digits.{more_digits_in, digits_from, number_in}

more_in_ten : (n c : ℕ) → more_digits_in 10 n c ≡ more_digits n c
more_in_ten n c = grind (arith, nat_tests)

from_in_ten : (o : Option ℕ) (cs : List ℕ) → digits_from 10 o cs ≡ number_from o cs
unfolding digits_from number_from
from_in_ten None cs = refl
from_in_ten (Some n) [] = refl
from_in_ten (Some n) (c ∷ cs) = ap (λ o. digits_from 10 o cs) (more_in_ten n c) ∙ from_in_ten (more_digits n c) cs

pub number_in_ten : (s : List ℕ) → number_in 10 s ≡ number s
number_in_ten [] = refl
number_in_ten (c ∷ cs) = from_in_ten (Some 0) (c ∷ cs)
