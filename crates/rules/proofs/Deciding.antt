-- Tests that decide propositions, put together. Nothing here is of the subject.
use Rattle.std.proofs.Common.{◌≡◌, ℕ, zero, suc, ◌+◌, ◌<◌, ◌≤◌, Bool, true, false, not, ◌&&◌, ◌||◌, eqb, ltb, leb, ◌⊎◌, List, [], ◌∷◌, map, is_some, Some, None, Decides, Option, sym, refl, ap, subst, inl, inr, arith}
use Rattle.std.specs.List.{range_with_len}
use Rattle.std.proofs.lemmas.Bool.{and_parts, and_from, or_cases, or_left, or_right, not-true, not_from_false, both_ways, cases_Bool, eqb-true, eq-eqb, ltb-true, lt-ltb, leb-true, le-leb}
use Rattle.rules.specs.Order.{Stands, some}
use Rattle.rules.specs.Words.{Given}
use Rattle.rules.specs.Rows.{same_if}
use Rattle.rules.proofs.Spots.{nothing}

pub decides_like : {x : Bool} {P Q : Type 0} → (P → Q) → (Q → P) → Decides x P → Decides x Q
decides_like f g d = (λ h. f (d.0 h), λ q. d.1 (g q))

pub on : (x : Bool) → Decides x (x ≡ true)
on x = (λ h. h, λ h. h)

pub off : (x : Bool) → Decides (not x) (x ≡ false)
off x = (not-true x, not_from_false x)

pub both : {x y : Bool} {P Q : Type 0} → Decides x P → Decides y Q → Decides (x && y) (P × Q)
both {x} {y} d e = (λ h. let k = and_parts x y h in (d.0 k.0, e.0 k.1), λ h. and_from x y (d.1 h.0) (e.1 h.1))

pub either : {x y : Bool} {P Q : Type 0} → Decides x P → Decides y Q → Decides (x || y) (P ⊎ Q)
either {x} {y} d e = (
  λ h. elim (or_cases x y h) [ inl k ↦ inl (d.0 k) | inr k ↦ inr (e.0 k) ],
  elim [ inl k ↦ or_left x y (d.1 k) | inr k ↦ or_right x y (e.1 k) ],
)

pub neither : {x : Bool} {P : Type 0} → Decides x P → Decides (not x) (P → ⊥)
neither {x} d = (
  λ h p. both_ways x (not-true x h) (d.1 p),
  λ k. elim (cases_Bool x) [ inl h ↦ absurd (k (d.0 h)) | inr h ↦ not_from_false x h ],
)

pub equal : (a b : ℕ) → Decides (eqb a b) (a ≡ b)
equal a b = (eqb-true a b, eq-eqb a b)

pub less : (a b : ℕ) → Decides (ltb a b) (a < b)
less a b = (ltb-true a b, lt-ltb a b)

pub at_most : (a b : ℕ) → Decides (leb a b) (a ≤ b)
at_most a b = (leb-true a b, le-leb a b)

pub given : {X : Type 0} (o : Option X) → Decides (is_some o) (Given o)
given None = (λ h. absurd (both_ways false refl h), λ g. nothing g.0 g.1)
given (Some x) = (λ h. (x, refl), λ g. refl)

pub none : {X : Type 0} (o : Option X) → Decides (not (is_some o)) (o ≡ None)
none None = (λ h. refl, λ e. refl)
none (Some x) = (λ h. absurd (both_ways false refl h), λ e. nothing x (sym e))

-- both have something, and the same
pub same_both : {X : Type 0} (same : X → X → Bool) → ((x y : X) → Decides (same x y) (x ≡ y)) → (o w : Option X) → Decides (same_if same o w) ((x : X) × (o ≡ Some x) × (w ≡ Some x))
same_both same d None w = (λ h. absurd (both_ways false refl h), λ g. nothing g.0 g.1)
same_both same d (Some x) None = (λ h. absurd (both_ways false refl h), λ g. nothing g.0 g.2)
same_both same d (Some x) (Some y) = (
  λ h. (x, refl, ap (λ z. Some z) (sym ((d x y).0 h))),
  λ g. let e : Some x ≡ Some g.0 = g.1 in let k : Some y ≡ Some g.0 = g.2 in let q : x ≡ y = cc in (d x y).1 q,
)

-- some element passes
pub among : {A : Type 0} {P : A → Type 0} (test : A → Bool) (l : List A) → ((a : A) → Decides (test a) (P a)) → Decides (some test l) ((p : ℕ) × (a : A) × Stands l p a × P a)
among test [] d = (λ h. absurd (both_ways false refl h), λ g. nothing g.1 g.2)
among {A} {P} test (b ∷ l) d = (at (test b) refl (among test l d).0, λ g. back g.0 g.1 g.2 g.3 (among test l d).1)
  where
    at : (t : Bool) → test b ≡ t → (some test l ≡ true → (p : ℕ) × (a : A) × Stands l p a × P a) → some test (b ∷ l) ≡ true → (p : ℕ) × (a : A) × Stands (b ∷ l) p a × P a
    at true e below h = (0, b, refl, (d b).0 e)
    at false e below h = let r = below (rw e at h) in (suc r.0, r.1, r.2, r.3)

    back : (p : ℕ) (a : A) → Stands (b ∷ l) p a → P a → (((q : ℕ) × (c : A) × Stands l q c × P c) → some test l ≡ true) → some test (b ∷ l) ≡ true
    back zero a s h below = let e : a ≡ b = cc in let t : test b ≡ true = (d b).1 (subst P e h) in rw t
    back (suc p) a s h below = elim (cases_Bool (test b)) [ inl t ↦ rw t | inr t ↦ rw t (below (p, a, s, h)) ]

-- what stands in a list that is mapped
pub stands_map : {A B : Type 0} (g : A → B) (l : List A) (i : ℕ) (a : A) → Stands l i a → Stands (map g l) i (g a)
stands_map g [] i a h = nothing a h
stands_map g (b ∷ l) zero a h = let e : b ≡ a = cc in ap (λ x. Some (g x)) e
stands_map g (b ∷ l) (suc i) a h = stands_map g l i a h

pub map_stands : {A B : Type 0} (g : A → B) (l : List A) (i : ℕ) (y : B) → Stands (map g l) i y → (a : A) × Stands l i a × (g a ≡ y)
map_stands g [] i y h = nothing y h
map_stands g (b ∷ l) zero y h = (b, refl, cc)
map_stands g (b ∷ l) (suc i) y h = map_stands g l i y h

-- what stands in a row of numbers
pub counting_stands : (a n i m : ℕ) → Stands (range_with_len a n) i m → (m ≡ a + i) × (i < n)
counting_stands a zero i m h = nothing m h
counting_stands a (suc n) zero m h = let e : a ≡ m = cc in (omega arith, omega arith)
counting_stands a (suc n) (suc i) m h = let r = counting_stands (a + 1) n i m h in (omega (arith, r.0), omega (arith, r.1))

pub stands_counting : (a n i m : ℕ) → m ≡ a + i → i < n → Stands (range_with_len a n) i m
stands_counting a zero i m e lt = absurd (omega arith)
stands_counting a (suc n) zero m e lt = let q : a ≡ m = omega arith in ap (λ x. Some x) q
stands_counting a (suc n) (suc i) m e lt = stands_counting (a + 1) n i m (omega arith) (omega arith)
