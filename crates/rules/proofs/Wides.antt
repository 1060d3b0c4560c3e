-- How many arguments are wide: more than one, and just two.
use Rattle.std.proofs.Common.{◌≡◌, ℕ, suc, ◌<◌, Bool, true, false, cond, eqb, ltb, ◌⊎◌, List, [], ◌∷◌, ◌++◌, length, Decides, filter, sym, refl, ap, subst, inl, inr, arith}
use Rattle.form.specs.Model.{Form}
use Rattle.rules.specs.Order.{Member, Ascends, Exactly, blocks, when}
use Rattle.rules.specs.Words.{WideAt, TwoWide}
use Rattle.rules.specs.Rows.{wide, wide_count}
use Rattle.rules.proofs.Listing.{listed_like, listed_places, listed_leaf}
use Rattle.rules.proofs.Deciding.{decides_like, equal, less}
use Rattle.rules.proofs.Decided.{wide_decides}

-- rows of rising numbers
abbrev one : ℕ → List ℕ
one p = p ∷ []

rises : (x y : ℕ) (ps : List ℕ) → Ascends one (x ∷ y ∷ ps) → x < y
rises x y ps up = elim (up.0 y (inl refl)) [ inl lt ↦ lt | inr (e, b) ↦ absurd b ]

abbrev Two : List ℕ → Type 0
Two ps = (p : ℕ) × (q : ℕ) × (p < q) × Member p ps × Member q ps

abbrev JustTwo : List ℕ → Type 0
JustTwo ps = (p : ℕ) × (q : ℕ) × (p < q) × Member p ps × Member q ps × ((r : ℕ) → Member r ps → (r ≡ p) ⊎ (r ≡ q))

two_of : (ps : List ℕ) → Ascends one ps → 1 < length ps → Two ps
two_of [] up h = absurd (omega arith)
two_of (x ∷ []) up h = absurd (omega arith)
two_of (x ∷ y ∷ ps) up h = (x, y, rises x y ps up, inl refl, inr (inl refl))

of_two : (ps : List ℕ) (p q : ℕ) → p < q → Member p ps → Member q ps → 1 < length ps
of_two [] p q lt m n = absurd m
of_two (x ∷ []) p q lt (inl m) (inl n) = absurd (omega arith)
of_two (x ∷ []) p q lt (inl m) (inr n) = absurd n
of_two (x ∷ []) p q lt (inr m) n = absurd m
of_two (x ∷ y ∷ ps) p q lt m n = omega arith

just_two : (ps : List ℕ) → Ascends one ps → length ps ≡ 2 → JustTwo ps
just_two [] up h = absurd (omega arith)
just_two (x ∷ []) up h = absurd (omega arith)
just_two (x ∷ y ∷ []) up h = (x, y, rises x y [] up, inl refl, inr (inl refl), λ r. elim [ inl e ↦ inl e | inr (inl e) ↦ inr e | inr (inr m) ↦ absurd m ])
just_two (x ∷ y ∷ z ∷ ps) up h = absurd (omega arith)

third : (x y z p q : ℕ) → x < y → y < z → (x ≡ p) ⊎ (x ≡ q) → (y ≡ p) ⊎ (y ≡ q) → (z ≡ p) ⊎ (z ≡ q) → ⊥
third x y z p q a b (inl c) (inl d) e = omega arith
third x y z p q a b (inr c) (inr d) e = omega arith
third x y z p q a b (inl c) (inr d) (inl e) = omega arith
third x y z p q a b (inl c) (inr d) (inr e) = omega arith
third x y z p q a b (inr c) (inl d) (inl e) = omega arith
third x y z p q a b (inr c) (inl d) (inr e) = omega arith

two_just : (ps : List ℕ) → Ascends one ps → JustTwo ps → length ps ≡ 2
two_just [] up (p, q, lt, m, n, all) = absurd m
two_just (x ∷ []) up (p, q, lt, m, n, all) = absurd (let h = of_two (x ∷ []) p q lt m n in omega arith)
two_just (x ∷ y ∷ []) up t = refl
two_just (x ∷ y ∷ z ∷ ps) up (p, q, lt, m, n, all) =
    absurd (third x y z p q (rises x y (z ∷ ps) up) (rises y z ps up.1) (all x (inl refl)) (all y (inr (inl refl))) (all z (inr (inr (inl refl)))))

-- the places of wide arguments: as many as are kept
abbrev wide_places : Form → List ℕ
wide_places f = blocks (λ p a. when (wide a) p) 0 f.args

as_many : {A : Type 0} (test : A → Bool) (n : ℕ) (l : List A) → length (blocks (λ p a. when (test a) p) n l) ≡ length (filter test l)
unfolding blocks
as_many test n [] = refl
as_many {A} test n (a ∷ l) = at (test a) (as_many test (suc n) l)
  where
    at : (t : Bool) → length (blocks (λ p b. when (test b) p) (suc n) l) ≡ length (filter test l) → length (when t n ++ blocks (λ p b. when (test b) p) (suc n) l) ≡ length (cond t (a ∷ filter test l) (filter test l))
    at true e = ap suc e
    at false e = e

wide_listed : (f : Form) → Exactly one (WideAt f) (wide_places f)
wide_listed f = (listed_like
    (λ x (p, a, s, (w, e)). subst (WideAt f) (sym e) (a, s, (wide_decides a).0 w))
    (λ x (a, s, w). (x, a, s, ((wide_decides a).1 w, refl)))
    (λ r u. u)
    (listed_places [] f.args (λ p a _. listed_leaf 1 (p ∷ []) (λ _. refl)))).exactly

-- two arguments at least are wide
abbrev pub MoreWide : Form → Type 0
MoreWide f = (i : ℕ) × (j : ℕ) × (i < j) × WideAt f i × WideAt f j

pub more_wide_decides : (f : Form) → Decides (ltb 1 (wide_count f)) (MoreWide f)
more_wide_decides f = let w = wide_listed f in decides_like
    (λ h. let (p, q, lt, m, n) = two_of (wide_places f) w.ascends (omega (arith, as_many wide 0 f.args)) in (p, q, lt, w.sound p m, w.sound q n))
    (λ (p, q, lt, m, n). omega (arith, as_many wide 0 f.args, of_two (wide_places f) p q lt (w.complete p m) (w.complete q n)))
    (less 1 (wide_count f))

pub two_wide_decides : (f : Form) → Decides (eqb (wide_count f) 2) (TwoWide f)
two_wide_decides f = let w = wide_listed f in decides_like
    (λ h. let t = just_two (wide_places f) w.ascends (omega (arith, as_many wide 0 f.args)) in (t.0, t.1, t.2, w.sound t.0 t.3, w.sound t.1 t.4, λ r k. t.5 r (w.complete r k)))
    (λ (p, q, lt, m, n, all). omega (arith, as_many wide 0 f.args, two_just (wide_places f) w.ascends (p, q, lt, w.complete p m, w.complete q n, λ r k. all r (w.sound r k))))
    (equal (wide_count f) 2)
