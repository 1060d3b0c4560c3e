-- Two lists of exactly the same, in one order, are one list.
use Rattle.std.proofs.Common.{◌≡◌, ℕ, List, [], ◌∷◌, sym, refl, ◌∙◌, subst, inl, inr, arith}
use Rattle.rules.specs.Order.{Member, Before, Ascends, Exactly}

-- the order is strict
before_self : (r : List ℕ) → Before r r → ⊥
before_self [] h = h
before_self (x ∷ r) (inl h) = omega arith
before_self (x ∷ r) (inr h) = before_self r h.1

before_back : (r s : List ℕ) → Before r s → Before s r → ⊥
before_back [] [] h k = h
before_back [] (y ∷ s) h k = k
before_back (x ∷ r) [] h k = h
before_back (x ∷ r) (y ∷ s) (inl h) (inl k) = omega arith
before_back (x ∷ r) (y ∷ s) (inl h) (inr k) = omega (arith, k.0)
before_back (x ∷ r) (y ∷ s) (inr h) (inl k) = omega (arith, h.0)
before_back (x ∷ r) (y ∷ s) (inr h) (inr k) = before_back r s h.1 k.1

heads : {X : Type 0} (rank : X → List ℕ) (x y : X) (xs ys : List X) → Ascends rank (x ∷ xs) → Ascends rank (y ∷ ys) → Member x (y ∷ ys) → Member y (x ∷ xs) → x ≡ y
heads rank x y xs ys a b (inl e) k = e
heads rank x y xs ys a b (inr h) (inl e) = sym e
heads rank x y xs ys a b (inr h) (inr k) = absurd (before_back (rank x) (rank y) (a.0 y k) (b.0 x h))

tails : {X : Type 0} (rank : X → List ℕ) (x y z : X) (xs ys : List X) → Ascends rank (x ∷ xs) → x ≡ y → Member z xs → Member z (y ∷ ys) → Member z ys
tails rank x y z xs ys a e m (inl f) = absurd (before_self (rank x) (subst (λ u. Before (rank x) (rank u)) (f ∙ sym e) (a.0 z m)))
tails rank x y z xs ys a e m (inr k) = k

same_members : {X : Type 0} (rank : X → List ℕ) (xs ys : List X) → Ascends rank xs → Ascends rank ys → ((x : X) → Member x xs → Member x ys) → ((x : X) → Member x ys → Member x xs) → xs ≡ ys
same_members rank [] [] a b f g = refl
same_members rank [] (y ∷ ys) a b f g = absurd (g y (inl refl))
same_members rank (x ∷ xs) [] a b f g = absurd (f x (inl refl))
same_members rank (x ∷ xs) (y ∷ ys) a b f g =
    let e = heads rank x y xs ys a b (f x (inl refl)) (g y (inl refl)) in
    let t = same_members rank xs ys a.1 b.1 (λ z m. tails rank x y z xs ys a e m (f z (inr m))) (λ z m. tails rank y x z ys xs b (sym e) m (g z (inr m))) in
    cc

-- two lists of exactly the same are equal
pub exactly_one : {X : Type 0} {rank : X → List ℕ} {B : X → Type 0} (xs ys : List X) → Exactly rank B xs → Exactly rank B ys → xs ≡ ys
exactly_one {rank = rank} xs ys a b = same_members rank xs ys a.ascends b.ascends (λ x m. b.complete x (a.sound x m)) (λ x m. a.complete x (b.sound x m))
