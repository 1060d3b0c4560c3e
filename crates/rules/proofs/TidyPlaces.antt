-- What stands in lists: lemmas that are not of the subject.
use Rattle.std.proofs.Common.{◌≡◌, ℕ, zero, suc, ◌+◌, ◌<◌, ◌⊎◌, List, [], ◌∷◌, ◌++◌, map, length, Some, None, sym, refl, ap, subst, inl, inr, arith}
use Rattle.std.proofs.lemmas.Slice.Eq.{bytes_eq-Decides}
use Rattle.std.proofs.lemmas.Bool.{cases_order, cases_Bool, both_ways}
use Rattle.form.specs.Model.{Name}
use Rattle.rules.specs.Order.{Stands, Member, each}

-- an option is not both empty and full
pub nothing : {X : Type 0} {P : Type 0} (x : X) → None ≡ Some x → P
nothing x e = let z : ◌≡◌ {A = ℕ} 0 1 = cc in absurd (omega arith)

-- two places neither of which is the lower are one
pub one_place : (p q : ℕ) → (p < q → ⊥) → (q < p → ⊥) → p ≡ q
one_place p q up down = elim (cases_order p q) [ inl e ↦ e | inr o ↦ elim o [ inl lt ↦ absurd (up lt) | inr lt ↦ absurd (down lt) ] ]

-- names are equal, or not
pub cases_name : (x y : Name) → (x ≡ y) ⊎ (x ≡ y → ⊥)
cases_name x y = elim (cases_Bool _) [ inl t ↦ inl ((bytes_eq-Decides x y).0 t) | inr t ↦ inr (λ e. both_ways _ t ((bytes_eq-Decides x y).1 e)) ]

-- P holds of what stands somewhere, or of nothing that does
pub sought : {X : Type 0} (P : X → Type 0) → ((x : X) → P x ⊎ (P x → ⊥)) → (xs : List X) → let SomeP : Type 0 = (p : ℕ) × (x : X) × Stands xs p x × P x in SomeP ⊎ (SomeP → ⊥)
sought P test [] = inr (λ h. nothing h.1 h.2)
sought {X} P test (y ∷ xs) = elim (test y) [ inl t ↦ inl (0, y, refl, t) | inr t ↦ past t (sought P test xs) ]
  where
    past : (P y → ⊥) → ((p : ℕ) × (x : X) × Stands xs p x × P x) ⊎ (((p : ℕ) × (x : X) × Stands xs p x × P x) → ⊥) → ((p : ℕ) × (x : X) × Stands (y ∷ xs) p x × P x) ⊎ (((p : ℕ) × (x : X) × Stands (y ∷ xs) p x × P x) → ⊥)
    past t (inl r) = inl (suc r.0, r.1, r.2, r.3)
    past t (inr r) = inr (λ h. none h.0 h.1 h.2 h.3)
      where
        none : (p : ℕ) (x : X) → Stands (y ∷ xs) p x → P x → ⊥
        none zero x h s = let e : x ≡ y = cc in t (subst P e s)
        none (suc p) x h s = r (p, x, h, s)

-- what stands in two lists joined
pub stands_right : {X : Type 0} (xs ys : List X) (p q : ℕ) (x : X) → Stands ys p x → q ≡ length xs + p → Stands (xs ++ ys) q x
stands_right [] ys p q x h e = let d : q ≡ p = omega arith in rw d h
stands_right (y ∷ xs) ys p zero x h e = absurd (omega arith)
stands_right (y ∷ xs) ys p (suc q) x h e = stands_right xs ys p q x h (omega arith)

pub stands_split : {X : Type 0} (xs ys : List X) (q : ℕ) (x : X) → Stands (xs ++ ys) q x → Stands xs q x ⊎ ((p : ℕ) × Stands ys p x × (q ≡ length xs + p))
stands_split [] ys q x h = inr (q, h, omega arith)
stands_split (y ∷ xs) ys zero x h = inl h
stands_split {X} (y ∷ xs) ys (suc q) x h = elim (stands_split xs ys q x h) [ inl l ↦ inl l | inr l ↦ inr (l.0, l.1, further l.0 l.2) ]
  where
    further : (p : ℕ) → q ≡ length xs + p → suc q ≡ suc (length xs) + p
    further p e = omega arith

-- what stands in `each g n xs`
pub each_in : {A X : Type 0} (g : ℕ → A → X) (n m : ℕ) (xs : List A) (p : ℕ) (a : A) → Stands xs p a → m ≡ n + p → Stands (each g n xs) p (g m a)
each_in g n m [] p a h e = nothing a h
each_in g n m (x ∷ xs) zero a h e = let d : m ≡ n = omega arith in let i : x ≡ a = cc in rw (d, i)
each_in g n m (x ∷ xs) (suc p) a h e = each_in g (suc n) m xs p a h (omega arith)

pub each_out : {A X : Type 0} (g : ℕ → A → X) (n : ℕ) (xs : List A) (p : ℕ) (y : X) → Stands (each g n xs) p y → (m : ℕ) × (a : A) × Stands xs p a × (m ≡ n + p) × (y ≡ g m a)
each_out g n [] p y h = nothing y h
each_out g n (x ∷ xs) zero y h = (n, x, refl, omega arith, cc)
each_out g n (x ∷ xs) (suc p) y h = let r = each_out g (suc n) xs p y h in (r.0, r.1, r.2, omega arith, r.4)

pub length_each : {A X : Type 0} (g : ℕ → A → X) (n : ℕ) (xs : List A) → length (each g n xs) ≡ length xs
length_each g n [] = refl
length_each g n (x ∷ xs) = ap suc (length_each g (suc n) xs)

-- members
pub member_stands : {X : Type 0} (xs : List X) (x : X) → Member x xs → (p : ℕ) × Stands xs p x
member_stands [] x h = absurd h
member_stands (y ∷ xs) x (inl e) = (0, ap (λ z. Some z) (sym e))
member_stands (y ∷ xs) x (inr h) = let r = member_stands xs x h in (suc r.0, r.1)

pub member_left : {X : Type 0} (xs ys : List X) (x : X) → Member x xs → Member x (xs ++ ys)
member_left [] ys x h = absurd h
member_left (y ∷ xs) ys x (inl e) = inl e
member_left (y ∷ xs) ys x (inr h) = inr (member_left xs ys x h)

pub member_right : {X : Type 0} (xs ys : List X) (x : X) → Member x ys → Member x (xs ++ ys)
member_right [] ys x h = h
member_right (y ∷ xs) ys x h = inr (member_right xs ys x h)

pub member_split : {X : Type 0} (xs ys : List X) (x : X) → Member x (xs ++ ys) → Member x xs ⊎ Member x ys
member_split [] ys x h = inr h
member_split (y ∷ xs) ys x (inl e) = inl (inl e)
member_split (y ∷ xs) ys x (inr h) = elim (member_split xs ys x h) [ inl k ↦ inl (inr k) | inr k ↦ inr k ]

pub member_map : {X Y : Type 0} (g : X → Y) (xs : List X) (x : X) → Member x xs → Member (g x) (map g xs)
member_map g [] x h = absurd h
member_map g (y ∷ xs) x (inl e) = inl (ap g e)
member_map g (y ∷ xs) x (inr h) = inr (member_map g xs x h)

pub member_unmap : {X Y : Type 0} (g : X → Y) (xs : List X) (y : Y) → Member y (map g xs) → (x : X) × Member x xs × (y ≡ g x)
member_unmap g [] y h = absurd h
member_unmap g (x ∷ xs) y (inl e) = (x, inl refl, e)
member_unmap g (x ∷ xs) y (inr h) = let r = member_unmap g xs y h in (r.0, inr r.1, r.2)
