-- The test of keys is equality: theorems about `same_key`.
use Rattle.std.specs.Prelude.{◌≡◌, true, refl}
use Rattle.std.proofs.Common.{ap, eq-eqb, eqb-true}
use borrow.Author.Tests.{clash}
use Rattle.std.proofs.lemmas.Slice.Eq.{bytes_eq-Decides}
use Rattle.form.specs.Keys.{KeyName, position, letter, long, same_key}

-- keys that it takes for equal are one and the same
pub same_key_is : (k l : KeyName) → same_key k l ≡ true → k ≡ l
same_key_is (position m) (position n) e = ap position (eqb-true m n e)
same_key_is (position m) (letter n) e = absurd (clash e)
same_key_is (position m) (long y) e = absurd (clash e)
same_key_is (letter m) (position n) e = absurd (clash e)
same_key_is (letter m) (letter n) e = ap letter (eqb-true m n e)
same_key_is (letter m) (long y) e = absurd (clash e)
same_key_is (long x) (position n) e = absurd (clash e)
same_key_is (long x) (letter n) e = absurd (clash e)
same_key_is (long x) (long y) e = ap long ((bytes_eq-Decides x y).0 e)

-- and it takes each for equal to itself
pub same_key_self : (k : KeyName) → same_key k k ≡ true
same_key_self (position m) = eq-eqb m m refl
same_key_self (letter m) = eq-eqb m m refl
same_key_self (long x) = (bytes_eq-Decides x x).1 refl
