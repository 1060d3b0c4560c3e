-- The bits of a number, told lowest first, and one told at a time.
use Rattle.std.proofs.Common.{◌≡◌, ℕ, zero, suc, ◌+◌, ◌-◌, ◌/◌, ◌%◌, ◌^◌, ◌<◌, ◌≤◌, eqb, List, [], ◌∷◌, ◌++◌, sym, refl, ap, ◌∙◌, add-zero, add-suc, mod-lt, suc-add, pow-suc, zero-add, div-one, add-one, arith, lit<, lit≤}
use lib.Count.{ones, ones_in, ones_step, count_trailing_zeros, under}
use Rattle.std.specs.List.{range_with_len}
use Rattle.std.proofs.lemmas.Nat.{shr-shr}
use Rattle.form.specs.Settings.{bit}
use Rattle.rules.specs.Order.{blocks, when}
use Rattle.rules.specs.declared.breach.Breach.{Breach}

-- what is told of the c lowest bits of n, the first being called k
unfoldable pub bits_told : (ℕ → Breach) → ℕ → ℕ → ℕ → List Breach
bits_told b zero k n = []
bits_told b (suc c) k n = when (eqb (n % 2) 1) (b k) ++ bits_told b c (suc k) (n / 2)

shift : (n k : ℕ) → n / 2 ^ k / 2 ≡ n / 2 ^ suc k
shift n k = shr-shr n k 1 ∙ ap (λ m. n / 2 ^ m) (add-one k)

told_from : (b : ℕ → Breach) (n c k a : ℕ) → blocks (λ j _. when (bit n j) (b j)) k (range_with_len a c) ≡ bits_told b c k (n / 2 ^ k)
unfolding blocks bits_told
told_from b n zero k a = refl
told_from b n (suc c) k a = ap (λ l. when (bit n k) (b k) ++ l) (told_from b n c (suc k) (a + 1) ∙ ap (bits_told b c (suc k)) (sym (shift n k)))

pub told_all : (b : ℕ → Breach) (n c : ℕ) → blocks (λ j _. when (bit n j) (b j)) 0 (range_with_len 0 c) ≡ bits_told b c 0 n
told_all b n c = told_from b n c 0 0 ∙ ap (bits_told b c 0) (div-one n)

-- no bits
pub told_none : (b : ℕ → Breach) (c k : ℕ) → bits_told b c k 0 ≡ []
unfolding bits_told
told_none b zero k = refl
told_none b (suc c) k = told_none b c (suc k)

-- z is the lowest bit of n: it is told first, and the rest is what is left without it
pub record Lowest (b : ℕ → Breach) (c k n z : ℕ) : Type 0 where
  pub low : 2 ^ z ≤ n
  pub few : z < c
  pub count : ones n ≡ suc (ones (n - 2 ^ z))
  pub first : bits_told b c k n ≡ b (k + z) ∷ bits_told b c k (n - 2 ^ z)

odd : (b : ℕ → Breach) (c k n : ℕ) → n % 2 ≡ 1 → Lowest b (suc c) k n 0
unfolding bits_told
odd b c k n e =
    let half : (n - 1) / 2 ≡ n / 2 = omega arith in
    let even : (n - 1) % 2 ≡ 0 = omega arith in
    record {
      low = omega arith;
      few = omega arith;
      count = ones_step n ∙ ap (λ d. d + ones (n / 2)) e ∙ omega (arith, ones_step (n - 1), ap ones half);
      first = rw (e, even, half, add-zero k);
    }

even : (b : ℕ → Breach) (c k n z : ℕ) → n % 2 ≡ 0 → Lowest b c (suc k) (n / 2) z → Lowest b (suc c) k n (suc z)
unfolding bits_told
even b c k n z e l =
    let double = pow-suc 2 z in
    let half : (n - 2 ^ suc z) / 2 ≡ n / 2 - 2 ^ z = omega (arith, double, l.low) in
    let rest : (n - 2 ^ suc z) % 2 ≡ 0 = omega (arith, double, l.low) in
    record {
      low = omega (arith, double, l.low);
      few = omega (arith, l.few);
      count = omega (arith, e, rest, ones_step n, l.count, ones_step (n - 2 ^ suc z), ap ones half);
      first = rw (e, rest, half) (l.first ∙ ap (λ j. b j ∷ bits_told b c (suc k) (n / 2 - 2 ^ z)) (suc-add k z ∙ sym (add-suc k z)));
    }

pub lowest : (b : ℕ → Breach) (c w k n : ℕ) → c ≤ w → n < 2 ^ c → 0 < n → Lowest b c k n (count_trailing_zeros w n)
unfolding count_trailing_zeros
lowest b zero w k n le few some = absurd (omega arith)
lowest b (suc c) zero k n le few some = absurd (omega arith)
lowest b (suc c) (suc w) k n le few some =
    go (n % 2) refl (λ more. lowest b c w (suc k) (n / 2) (omega arith) (omega (arith, pow-suc 2 c)) more) where
      go : (d : ℕ) → n % 2 ≡ d → (0 < n / 2 → Lowest b c (suc k) (n / 2) (count_trailing_zeros w (n / 2))) → Lowest b (suc c) k n (under d (count_trailing_zeros w (n / 2)))
      go zero e rest = even b c k n _ e (rest (omega arith))
      go (suc d) e rest = odd b c k n (omega (arith, mod-lt n {m = 2} (lit< tt)))

-- nothing is told of a number that has no bits
pub told_end : (b : ℕ → Breach) (c w n : ℕ) → c ≤ w → n < 2 ^ c → ones n ≡ 0 → bits_told b c 0 n ≡ []
told_end b c w zero le few e = told_none b c 0
told_end b c w (suc n) le few e = absurd (omega (arith, (lowest b c w 0 (suc n) le few (omega arith)).count))

some_bits : (n : ℕ) → 0 < ones n → 0 < n
unfolding ones ones_in
some_bits zero h = h
some_bits (suc n) h = omega arith

-- a turn of a walk over the bits of all: some are left, so there is a lowest
pub turn : (b : ℕ → Breach) (all left i : ℕ) → left < 2 ^ 12 → ones left + i ≡ ones all → i < ones all → Lowest b 12 0 left (count_trailing_zeros 16 left)
turn b all left i few count lt = lowest b 12 16 0 left (lit≤ tt) few (some_bits left (omega arith))

-- what a turn tells, and leaves
pub turn_told : (b : ℕ → Breach) (left z : ℕ) → Lowest b 12 0 left z → bits_told b 12 0 left ≡ (b z ∷ []) ++ bits_told b 12 0 (left - 2 ^ z)
turn_told b left z low = low.first ∙ ap (λ j. b j ∷ bits_told b 12 0 (left - 2 ^ z)) (zero-add z)
