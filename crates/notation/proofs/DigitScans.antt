-- One step of reading digits of a base.
use Rattle.std.proofs.Common.{◌≡◌, ℕ, ◌+◌, ◌-◌, ◌<◌, ◌≤◌, List, length, get_or, take, drop, Some, None, Option, refl, ap, ◌∙◌, add-one, drop-cons, eq-eqb}
use Rattle.std.proofs.lemmas.List.{drop_all, take_rest}
use Rattle.notation.specs.Digits.{more_digits_in, digits_from, number_in, count_written}

pub digits_step : (base n i : ℕ) (s : List ℕ) (o : Option ℕ) → i < length s → o ≡ more_digits_in base n (get_or s i 0) → digits_from base (Some n) (drop i s) ≡ digits_from base o (drop (i + 1) s)
unfolding digits_from
digits_step base n i s o h e = rw (drop-cons s i 0, add-one, e)

pub digits_stuck : (base : ℕ) (cs : List ℕ) → digits_from base None cs ≡ None
unfolding digits_from
digits_stuck base cs = refl

pub digits_end : (base n i : ℕ) (s : List ℕ) → length s ≤ i → digits_from base (Some n) (drop i s) ≡ Some n
unfolding digits_from
digits_end base n i s h = rw drop_all

pub count_hex : (s : List ℕ) (o : Option ℕ) → get_or s 0 0 ≡ 48 → get_or s 1 0 ≡ 120 → o ≡ number_in 16 (take (length s - 2) (drop 2 s)) → o ≡ count_written s
count_hex s o a b e = e ∙ rw (eq-eqb (get_or s 0 0) 48 a, eq-eqb (get_or s 1 0) 120 b) (ap (number_in 16) (take_rest s 2))
