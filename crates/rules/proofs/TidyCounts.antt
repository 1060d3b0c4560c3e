-- Counting: numbers that fill 1 to n. Nothing here is of the subject.
use Rattle.std.proofs.Common.{◌≡◌, ℕ, zero, suc, ◌+◌, ◌<◌, ◌≤◌, Bool, true, false, cond, ◌&&◌, eqb, ltb, leb, List, [], ◌∷◌, refl, inl, inr, arith}
use Rattle.std.proofs.lemmas.Bool.{cases_lt}
use Rattle.std.proofs.lemmas.Bool.Decides.{nat_tests}
use Rattle.rules.specs.Order.{Stands}

-- how many elements pass the test
abbrev pub count : {X : Type 0} → (X → Bool) → List X → ℕ
count t [] = 0
count t (x ∷ xs) = cond (t x) 1 0 + count t xs

-- at k of the numbers are k, and up m are 1 to m. If none comes twice, and n of them are 1 to n, then each of 1 to n comes once
module _ (at up : ℕ → ℕ) (start : up 0 ≡ 0) (step : (m : ℕ) → up (suc m) ≡ up m + at (suc m)) (few : (m : ℕ) → at (suc m) ≤ 1) where
  bound : (n : ℕ) → up n ≤ n
  bound zero = omega (arith, start)
  bound (suc n) = omega (arith, step n, few n, bound n)

  fills : (n : ℕ) → n ≤ up n → (k : ℕ) → k < n → at (suc k) ≡ 1
  fills zero full k lt = absurd (omega arith)
  fills (suc n) full k lt =
      elim (cases_lt k n) [
        | inl l ↦ fills n (omega (arith, step n, few n)) k l
        | inr l ↦ let e : k ≡ n = omega arith in rw e (omega (arith, step n, few n, bound n))
      ]

count_none : {X : Type 0} (t : X → Bool) (xs : List X) → ((x : X) → t x ≡ false) → count t xs ≡ 0
count_none t [] h = refl
count_none t (x ∷ xs) h = rw (h x, count_none t xs h)

count_both : {X : Type 0} (t u v : X → Bool) (xs : List X) → ((x : X) → cond (t x) 1 0 ≡ cond (u x) 1 0 + cond (v x) 1 0) → count t xs ≡ count u xs + count v xs
count_both t u v [] h = refl
count_both t u v (x ∷ xs) h = omega (arith, h x, count_both t u v xs h)

pub count_some : {X : Type 0} (t : X → Bool) (xs : List X) → 1 ≤ count t xs → (p : ℕ) × (x : X) × Stands xs p x × (t x ≡ true)
count_some t [] h = absurd (omega arith)
count_some {X} t (x ∷ xs) h = go (t x) refl h (count_some t xs)
  where
    go : (b : Bool) → t x ≡ b → 1 ≤ cond b 1 0 + count t xs → (1 ≤ count t xs → (p : ℕ) × (x : X) × Stands xs p x × (t x ≡ true)) → (p : ℕ) × (y : X) × Stands (x ∷ xs) p y × (t y ≡ true)
    go true e h r = (0, x, refl, e)
    go false e h r = let s = r (omega arith) in (suc s.0, s.1, s.2, s.3)

-- no two places pass the test: at most one element does
pub count_few : {X : Type 0} (t : X → Bool) (xs : List X) → ((p q : ℕ) (x y : X) → p < q → Stands xs p x → Stands xs q y → t x ≡ true → t y ≡ true → ⊥) → count t xs ≤ 1
count_few t [] h = omega arith
count_few t (x ∷ xs) h = go (t x) refl (count_few t xs (λ p q y z lt. h (suc p) (suc q) y z (omega arith)))
  where
    go : (b : Bool) → t x ≡ b → count t xs ≤ 1 → cond b 1 0 + count t xs ≤ 1
    go false e r = omega arith
    go true e r =
        elim (cases_lt (count t xs) 1) [
          | inl l ↦ omega arith
          | inr l ↦ let s = count_some t xs l in absurd (h 0 (suc s.0) x s.1 (omega arith) refl s.2 e s.3)
        ]

-- as many as n elements have their number from 1 to n, and no two the same: each of 1 to n is the number of one
pub fill_once : {X : Type 0} (num : X → ℕ) (xs : List X) (n : ℕ)
    → n ≤ count (λ x. ltb 0 (num x) && leb (num x) n) xs
    → ((k : ℕ) → count (λ x. eqb (num x) (suc k)) xs ≤ 1)
    → (k : ℕ) → k < n → count (λ x. eqb (num x) (suc k)) xs ≡ 1
fill_once num xs n full few = fills
    (λ k. count (λ x. eqb (num x) k) xs)
    (λ m. count (λ x. ltb 0 (num x) && leb (num x) m) xs)
    (count_none _ xs (λ x. grind (arith, nat_tests)))
    (λ m. count_both (λ x. ltb 0 (num x) && leb (num x) (suc m)) (λ x. ltb 0 (num x) && leb (num x) m) (λ x. eqb (num x) (suc m)) xs (λ x. grind (arith, nat_tests)))
    few n full
