-- The indices of a table of arguments, counted from the front.
use Rattle.std.proofs.Common.{◌≡◌, ℕ, ◌+◌, ◌<◌, ◌≤◌, max, List, [], ◌∷◌, length, get_or, drop, Some, None, sym, ap, ◌∙◌, add-one, arith, drop-cons}
use native.Mathlib.Nat.{max-zero, max_comm}
use Rattle.std.proofs.lemmas.List.{drop_all}
use Rattle.form.specs.Model.{Arg, blank_arg}
use Rattle.rules.specs.Words.{indices}
use Rattle.rules.specs.Rows.{top}

-- n and h are the count and the highest of the indices before the place i
pub record Counted (xs : List Arg) (i n h : ℕ) : Type 0 where
  pub few : n ≤ i
  pub count : n + length (indices (drop i xs)) ≡ length (indices xs)
  pub highest : max h (top (indices (drop i xs))) ≡ top (indices xs)

max_assoc : (a b c : ℕ) → max (max a b) c ≡ max a (max b c)
max_assoc a b c = omega arith

pub counted_skip : (xs : List Arg) (i n h : ℕ) → i < length xs → (get_or xs i blank_arg).index ≡ None → Counted xs i n h → Counted xs (i + 1) n h
counted_skip xs i n h lt e c =
    let rest : indices (drop i xs) ≡ indices (drop (i + 1) xs) = rw (drop-cons xs i blank_arg, e, add-one) in
    record { few = omega (arith, c.few); count = ap (λ l. n + length l) (sym rest) ∙ c.count; highest = ap (λ l. max h (top l)) (sym rest) ∙ c.highest }

pub counted_more : (xs : List Arg) (i n h k : ℕ) → i < length xs → (get_or xs i blank_arg).index ≡ Some k → Counted xs i n h → Counted xs (i + 1) (n + 1) (max k h)
counted_more xs i n h k lt e c =
    let rest : indices (drop i xs) ≡ k ∷ indices (drop (i + 1) xs) = rw (drop-cons xs i blank_arg, e, add-one) in
    record {
      few = omega (arith, c.few);
      count = omega (arith, ap length rest, c.count);
      highest = ap (λ m. max m (top (indices (drop (i + 1) xs)))) (max_comm k h) ∙ max_assoc h k (top (indices (drop (i + 1) xs))) ∙ ap (λ l. max h (top l)) (sym rest) ∙ c.highest;
    }

pub counted_all : (xs : List Arg) (i n h : ℕ) → length xs ≤ i → Counted xs i n h → (n ≡ length (indices xs)) × (h ≡ top (indices xs))
counted_all xs i n h le c =
    let rest : indices (drop i xs) ≡ [] = rw drop_all in
    (omega (arith, ap length rest, c.count), sym (max-zero h) ∙ ap (λ l. max h (top l)) (sym rest) ∙ c.highest)
