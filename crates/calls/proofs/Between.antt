-- Induction over the calls between two places: what each call keeps, unless it hits, is alike at both, unless some call between hits.
use Rattle.std.proofs.Common.{ℕ, zero, suc, ◌<◌, ◌≤◌, ◌⊎◌, List, [], ◌∷◌, refl, inl, inr, arith}
use Rattle.rules.specs.Order.{Stands}
use Rattle.calls.specs.Marked.{MarkedForm}
use Rattle.calls.specs.Runs.{CallOf, World, after}
use Rattle.calls.proofs.Stepping.{stepped}

-- P holds of both or of neither
abbrev pub Alike : (MarkedForm → Type 0) → MarkedForm → MarkedForm → Type 0
Alike P m n = (P m → P n) × (P n → P m)

-- a call from place i on, and before j, hits
abbrev pub Hit : (World → CallOf → Type 0) → World → List CallOf → ℕ → ℕ → Type 0
Hit Q w cs i j = (n : ℕ) × (c : CallOf) × (i ≤ n) × (n < j) × Stands cs n c × Q (stepped w cs n) c

module _ (P : MarkedForm → Type 0) (Q : World → CallOf → Type 0) (one : (w : World) (c : CallOf) → Q w c ⊎ Alike P w.book (after w c).book) where
  unchanged : (m : MarkedForm) → Alike P m m
  unchanged m = (λ h. h, λ h. h)

  first_or_later : (w : World) (c : CallOf) (cs : List CallOf) (j : ℕ) → Q w c ⊎ Alike P w.book (after w c).book → Hit Q (after w c) cs 0 j ⊎ Alike P (after w c).book (stepped (after w c) cs j).book
      → Hit Q w (c ∷ cs) 0 (suc j) ⊎ Alike P w.book (stepped (after w c) cs j).book
  first_or_later w c cs j (inl q) r = inl (0, c, omega arith, omega arith, refl, q)
  first_or_later w c cs j (inr e) (inl (n, d, lo, lt, s, q)) = inl (suc n, d, omega arith, omega arith, s, q)
  first_or_later w c cs j (inr e) (inr r) = inr (λ h. r.0 (e.0 h), λ h. e.1 (r.1 h))

  ahead : (w : World) (cs : List CallOf) (j : ℕ) → Hit Q w cs 0 j ⊎ Alike P w.book (stepped w cs j).book
  ahead w cs zero = inr (unchanged w.book)
  ahead w [] (suc j) = inr (unchanged w.book)
  ahead w (c ∷ cs) (suc j) = first_or_later w c cs j (one w c) (ahead (after w c) cs j)

  pub between : (w : World) (cs : List CallOf) (i j : ℕ) → i ≤ j → Hit Q w cs i j ⊎ Alike P (stepped w cs i).book (stepped w cs j).book
  between w cs zero j le = ahead w cs j
  between w [] (suc i) zero le = absurd (omega arith)
  between w [] (suc i) (suc j) le = inr (unchanged w.book)
  between w (c ∷ cs) (suc i) zero le = absurd (omega arith)
  between w (c ∷ cs) (suc i) (suc j) le = elim (between (after w c) cs i j (omega arith)) [
    | inl (n, d, lo, lt, s, q) ↦ inl (suc n, d, omega arith, omega arith, s, q)
    | inr r ↦ inr r
  ]
