-- Lists, places and orders. Nothing here is of the subject.
use Rattle.std.specs.Prelude.{◌≡◌, ℕ, suc, ◌<◌, Bool, true, false, cond, ◌⊎◌, List, [], ◌∷◌, ◌++◌, Some}
use Rattle.std.specs.List.{slice_get}

-- x stands at the place p of the list; places count from 0
abbrev pub Stands : {X : Type 0} → List X → ℕ → X → Type 0
Stands xs p x = slice_get xs p ≡ Some x

-- x stands somewhere in the list
abbrev pub Member : {X : Type 0} → X → List X → Type 0
Member x [] = ⊥
Member x (y ∷ ys) = (x ≡ y) ⊎ Member x ys

-- one row of numbers before another: the first difference decides, and a row stands before what it begins
abbrev pub Before : List ℕ → List ℕ → Type 0
Before [] [] = ⊥
Before [] (y ∷ ys) = Unit {0}
Before (x ∷ xs) [] = ⊥
Before (x ∷ xs) (y ∷ ys) = (x < y) ⊎ ((x ≡ y) × Before xs ys)

-- the ranks of the elements ascend strictly, so that each stands once
abbrev pub Ascends : {X : Type 0} → (X → List ℕ) → List X → Type 0
Ascends rank [] = Unit {0}
Ascends {X} rank (x ∷ xs) = ((y : X) → Member y xs → Before (rank x) (rank y)) × Ascends rank xs

-- the list is exactly what B holds of: nothing else, all of it, in the order of rank
pub record Exactly {X : Type 0} (rank : X → List ℕ) (B : X → Type 0) (xs : List X) : Type 0 where
  pub sound : (x : X) → Member x xs → B x
  pub complete : (x : X) → B x → Member x xs
  pub ascends : Ascends rank xs

-- what g makes of each element and its place, the first place being n
abbrev pub each : {A X : Type 0} → (ℕ → A → X) → ℕ → List A → List X
each g n [] = []
each g n (a ∷ l) = g n a ∷ each g (suc n) l

-- what g tells of each element and its place, one after another, the first place being n
unfoldable pub blocks : {A X : Type 0} → (ℕ → A → List X) → ℕ → List A → List X
blocks g n [] = []
blocks g n (a ∷ l) = g n a ++ blocks g (suc n) l

-- x, if the test holds
abbrev pub when : {X : Type 0} → Bool → X → List X
when c x = cond c (x ∷ []) []

-- some element passes the test
abbrev pub some : {A : Type 0} → (A → Bool) → List A → Bool
some test [] = false
some test (a ∷ l) = cond (test a) true (some test l)
