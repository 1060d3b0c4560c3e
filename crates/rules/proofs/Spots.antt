-- Places in a list, told by recursion on it, as the listing goes; and that they are the places of the page.
use Rattle.std.proofs.Common.{◌≡◌, ℕ, zero, suc, ◌+◌, ◌<◌, ◌≤◌, Bool, true, ◌&&◌, ◌⊎◌, List, [], ◌∷◌, length, get_or, take, drop, Some, None, sym, ap, ◌∙◌, subst, inl, inr, arith}
use Rattle.std.specs.List.{slice_get}
use Rattle.std.proofs.lemmas.Bool.{and_parts}
use Rattle.rules.specs.Order.{Stands}

-- x stands at place i of the list, whose first place is n
abbrev pub Spot : {X : Type 0} → ℕ → List X → ℕ → X → Type 0
Spot n [] i x = ⊥
Spot n (y ∷ ys) i x = ((i ≡ n) × (x ≡ y)) ⊎ Spot (suc n) ys i x

-- some element of the list, with its place, has the property
abbrev pub Somewhere : {A : Type 0} → ℕ → List A → (ℕ → A → Type 0) → Type 0
Somewhere {A} n l P = (i : ℕ) × (a : A) × Spot n l i a × P i a

-- some element of the list, with its place as the page tells it
abbrev pub Among : {A : Type 0} → List A → (ℕ → A → Type 0) → Type 0
Among {A} l P = (i : ℕ) × (a : A) × Stands l i a × P i a

pub nothing : {X : Type 0} {P : Type 0} (x : X) → None ≡ Some x → P
nothing x e = let z : ◌≡◌ {A = ℕ} 0 1 = cc in absurd (omega arith)

-- the later places
pub spot_from : {A : Type 0} (n : ℕ) (l : List A) (i : ℕ) (a : A) → Spot n l i a → n ≤ i
spot_from n [] i a s = absurd s
spot_from n (b ∷ l) i a (inl s) = omega (arith, s.0)
spot_from n (b ∷ l) i a (inr s) = let h = spot_from (suc n) l i a s in omega arith

-- what follows the first k places is what stands from place m on
pub spot_drop : {A : Type 0} (k m n : ℕ) (l : List A) (i : ℕ) (a : A) → m ≡ n + k → Spot m (drop k l) i a → (m ≤ i) × Spot n l i a
spot_drop zero m n l i a e s = let q : m ≡ n = omega arith in (spot_from m l i a s, subst (λ (j : ℕ). Spot j l i a) q s)
spot_drop (suc k) m n [] i a e s = absurd s
spot_drop (suc k) m n (b ∷ l) i a e s = let h = spot_drop k m (suc n) l i a (omega arith) s in (h.0, inr h.1)

pub drop_spot : {A : Type 0} (k m n : ℕ) (l : List A) (i : ℕ) (a : A) → m ≡ n + k → m ≤ i → Spot n l i a → Spot m (drop k l) i a
drop_spot zero m n l i a e le s = let q : n ≡ m = omega arith in subst (λ (j : ℕ). Spot j l i a) q s
drop_spot (suc k) m n [] i a e le s = absurd s
drop_spot (suc k) m n (b ∷ l) i a e le (inl s) = absurd (omega (arith, s.0))
drop_spot (suc k) m n (b ∷ l) i a e le (inr s) = drop_spot k m (suc n) l i a (omega arith) le s

-- the earlier places
pub spot_take : {A : Type 0} (k m n : ℕ) (l : List A) (i : ℕ) (a : A) → m ≡ n + k → Spot n (take k l) i a → (i < m) × Spot n l i a
spot_take zero m n l i a e s = absurd s
spot_take (suc k) m n [] i a e s = absurd s
spot_take (suc k) m n (b ∷ l) i a e (inl s) = (omega (arith, s.0), inl s)
spot_take (suc k) m n (b ∷ l) i a e (inr s) = let h = spot_take k m (suc n) l i a (omega arith) s in (h.0, inr h.1)

pub take_spot : {A : Type 0} (k m n : ℕ) (l : List A) (i : ℕ) (a : A) → m ≡ n + k → i < m → Spot n l i a → Spot n (take k l) i a
take_spot zero m n l i a e lt s = absurd (omega (arith, spot_from n l i a s))
take_spot (suc k) m n [] i a e lt s = absurd s
take_spot (suc k) m n (b ∷ l) i a e lt (inl s) = inl s
take_spot (suc k) m n (b ∷ l) i a e lt (inr s) = inr (take_spot k m (suc n) l i a (omega arith) lt s)

-- the places of the page are these, from 0
spot_nth : {A : Type 0} (n : ℕ) (l : List A) (i j : ℕ) (a : A) → j ≡ n + i → Spot n l j a → slice_get l i ≡ Some a
spot_nth n [] i j a e s = absurd s
spot_nth n (b ∷ l) zero j a e (inl s) = ap (λ x. Some x) (sym s.1)
spot_nth n (b ∷ l) zero j a e (inr s) = absurd (omega (arith, spot_from (suc n) l j a s))
spot_nth n (b ∷ l) (suc i) j a e (inl s) = absurd (omega (arith, s.0))
spot_nth n (b ∷ l) (suc i) j a e (inr s) = spot_nth (suc n) l i j a (omega arith) s

nth_spot : {A : Type 0} (n : ℕ) (l : List A) (i j : ℕ) (a : A) → j ≡ n + i → slice_get l i ≡ Some a → Spot n l j a
nth_spot n [] i j a e s = nothing a s
nth_spot n (b ∷ l) zero j a e s = let q : a ≡ b = cc in inl (omega arith, q)
nth_spot n (b ∷ l) (suc i) j a e s = inr (nth_spot (suc n) l i j a (omega arith) s)

pub spot_stands : {A : Type 0} (l : List A) (i : ℕ) (a : A) → Spot 0 l i a → Stands l i a
spot_stands l i a = spot_nth 0 l i i a (omega arith)

pub stands_spot : {A : Type 0} (l : List A) (i : ℕ) (a : A) → Stands l i a → Spot 0 l i a
stands_spot l i a = nth_spot 0 l i i a (omega arith)

-- what a test says of every row, and what holds of every row
abbrev pub every : {A : Type 0} → (A → Bool) → List A → Bool
every test [] = true
every test (a ∷ l) = test a && every test l

pub every_stands : {A : Type 0} (test : A → Bool) (l : List A) → every test l ≡ true → (i : ℕ) (a : A) → Stands l i a → test a ≡ true
every_stands test [] e i a s = nothing a s
every_stands test (b ∷ l) e zero a s = let q : a ≡ b = cc in ap test q ∙ (and_parts (test b) (every test l) e).0
every_stands test (b ∷ l) e (suc i) a s = every_stands test l (and_parts (test b) (every test l) e).1 i a s

infixr 4 ◌⨾◌
pub data Every {A : Type 0} (P : A → Type 0) : List A → Type 0 where
  end : Every P []
  ◌⨾◌ : {a : A} {l : List A} → P a → Every P l → Every P (a ∷ l)

pub EveryStands : {A : Type 0} (P : A → Type 0) (l : List A) → Every P l → (i : ℕ) (a : A) → Stands l i a → P a
EveryStands P _ end i a s = nothing a s
EveryStands P (b ∷ l) (h ⨾ rest) zero a s = let q : b ≡ a = cc in subst P q h
EveryStands P (b ∷ l) (h ⨾ rest) (suc i) a s = EveryStands P l rest i a s

pub stands_getD : {A : Type 0} (l : List A) (i : ℕ) (a d : A) → Stands l i a → get_or l i d ≡ a
stands_getD [] i a d s = nothing a s
stands_getD (b ∷ l) zero a d s = cc
stands_getD (b ∷ l) (suc i) a d s = stands_getD l i a d s

pub stands_below : {A : Type 0} (l : List A) (i : ℕ) (a : A) → Stands l i a → i < length l
stands_below [] i a s = nothing a s
stands_below (b ∷ l) zero a s = omega arith
stands_below (b ∷ l) (suc i) a s = let h = stands_below l i a s in omega arith
