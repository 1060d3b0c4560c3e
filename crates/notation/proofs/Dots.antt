-- The first two dots in a row, by place.
use Rattle.std.proofs.Common.{◌≡◌, ℕ, zero, suc, ◌+◌, ◌<◌, ◌≤◌, List, [], ◌∷◌, length, get_or, Some, None, Option, MatchOption, sym, refl, ap, ◌∙◌, inl, inr, arith, eq-eqb, ne_eqb}
use Rattle.std.proofs.lemmas.Bool.{cases_eq}
use Rattle.notation.specs.RangeTexts.{dots_from, dots}

-- no two dots in a row stand before the place
abbrev pub NoDots : List ℕ → ℕ → Type 0
NoDots s n = (k j : ℕ) → j ≡ k + 1 → j < length s → k < n → get_or s k 0 ≡ 46 → get_or s j 0 ≡ 46 → ⊥

dots_on : (a b p : ℕ) (cs : List ℕ) → (a ≡ 46 → b ≡ 46 → ⊥) → dots_from p (a ∷ (b ∷ cs)) ≡ dots_from (suc p) (b ∷ cs)
unfolding dots_from
dots_on a b p cs ne = elim (cases_eq a 46) [
  | inr na ↦ rw (ne_eqb a 46 na)
  | inl ea ↦ rw (eq-eqb a 46 ea, ne_eqb b 46 (ne ea))
]

dots_none : (s : List ℕ) (p : ℕ) → NoDots s (length s) → dots_from p s ≡ None
unfolding dots_from
dots_none [] p h = refl
dots_none (a ∷ []) p h = refl
dots_none (a ∷ (b ∷ cs)) p h =
    dots_on a b p cs (h 0 1 refl (omega arith) (omega arith))
    ∙ dots_none (b ∷ cs) (suc p) (λ k j e in_range below. h (suc k) (suc j) (omega arith) (omega arith) (omega arith))

dots_some : (s : List ℕ) (i j p : ℕ) → j ≡ i + 1 → j < length s → get_or s i 0 ≡ 46 → get_or s j 0 ≡ 46 → NoDots s i → dots_from p s ≡ Some (p + i)
unfolding dots_from
dots_some [] i j p e within one two h = absurd (omega arith)
dots_some (a ∷ []) i j p e within one two h = absurd (omega arith)
dots_some (a ∷ (b ∷ cs)) zero j p e within one two h =
    let b_is : b ≡ 46 = rw e at two in
    rw (one, b_is) (ap Some (omega arith))
dots_some (a ∷ (b ∷ cs)) (suc i) zero p e within one two h = absurd (omega arith)
dots_some (a ∷ (b ∷ cs)) (suc i) (suc j) p e within one two h =
    dots_on a b p cs (h 0 1 refl (omega arith) (omega arith))
    ∙ dots_some (b ∷ cs) i j (suc p) (omega arith) (omega arith) one two (λ k m f in_range below. h (suc k) (suc m) (omega arith) (omega arith) (omega arith))
    ∙ ap Some (omega arith)

-- where two dots stand first, by place
pub first_dots : (s : List ℕ) (r : Option ℕ) → MatchOption r (NoDots s (length s)) (λ i. (i + 2 ≤ length s) × (get_or s i 0 ≡ 46) × (get_or s (i + 1) 0 ≡ 46) × NoDots s i) → r ≡ dots s
first_dots s None h = sym (dots_none s 0 h)
first_dots s (Some i) h = sym (dots_some s i (i + 1) 0 refl (omega arith) h.1 h.2 h.3 ∙ ap Some (omega arith))
