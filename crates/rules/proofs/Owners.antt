-- Where the owners of flags stand: the subcommands first, then the arguments.
use Rattle.std.proofs.Common.{◌≡◌, ℕ, zero, suc, ◌+◌, ◌⊎◌, List, [], ◌∷◌, ◌++◌, length, sym, refl, subst, inl, inr, arith}
use Rattle.form.specs.Model.{Arg, Subcommand, Form}
use Rattle.rules.specs.Order.{Stands, each}
use Rattle.rules.specs.Words.{Owner, of_subcommand, of_argument, owners}
use Rattle.rules.specs.Rank.{before_arguments}
use Rattle.rules.proofs.Spots.{nothing}
use Rattle.rules.proofs.TidyPlaces.{length_each}

-- what stands in two lists, one after the other
pub stands_left : {X : Type 0} (xs ys : List X) (i : ℕ) (x : X) → Stands xs i x → Stands (xs ++ ys) i x
stands_left [] ys i x h = nothing x h
stands_left (y ∷ xs) ys zero x h = h
stands_left (y ∷ xs) ys (suc i) x h = stands_left xs ys i x h

pub stands_right : {X : Type 0} (xs ys : List X) (i j : ℕ) (x : X) → i ≡ length xs + j → Stands ys j x → Stands (xs ++ ys) i x
stands_right [] ys i j x e h = let q : j ≡ i = omega arith in subst (λ (k : ℕ). Stands ys k x) q h
stands_right (y ∷ xs) ys zero j x e h = absurd (omega arith)
stands_right (y ∷ xs) ys (suc i) j x e h = stands_right xs ys i j x (omega arith) h

pub stands_either : {X : Type 0} (xs ys : List X) (i : ℕ) (x : X) → Stands (xs ++ ys) i x → Stands xs i x ⊎ ((j : ℕ) × (i ≡ length xs + j) × Stands ys j x)
stands_either [] ys i x h = inr (i, omega arith, h)
stands_either (y ∷ xs) ys zero x h = inl h
stands_either (y ∷ xs) ys (suc i) x h = elim (stands_either xs ys i x h) [ inl k ↦ inl k | inr k ↦ inr (k.0, omega (arith, k.1), k.2) ]

-- what is made of each element
pub each_stands : {A X : Type 0} (g : ℕ → A → X) (n : ℕ) (l : List A) (i j : ℕ) (x : X) → j ≡ n + i → Stands (each g n l) i x → (a : A) × Stands l i a × (x ≡ g j a)
each_stands g n [] i j x e h = nothing x h
each_stands {X = X} g n (a ∷ l) zero j x e h = let q : n ≡ j = omega arith in let u : x ≡ g n a = cc in (a, refl, subst (λ (k : ℕ). x ≡ g k a) q u)
each_stands g n (a ∷ l) (suc i) j x e h = each_stands g (suc n) l i j x (omega arith) h

pub stands_each : {A X : Type 0} (g : ℕ → A → X) (n : ℕ) (l : List A) (i j : ℕ) (a : A) → j ≡ n + i → Stands l i a → Stands (each g n l) i (g j a)
stands_each g n [] i j a e h = nothing a h
stands_each {X = X} g n (b ∷ l) zero j a e h = let q : n ≡ j = omega arith in let u : b ≡ a = cc in cc
stands_each g n (b ∷ l) (suc i) j a e h = stands_each g (suc n) l i j a (omega arith) h

-- an owner is a subcommand at its place, or an argument at its place after them
pub data Owning (f : Form) : ℕ → Owner → Type 0 where
  subcommand_at : (p : ℕ) (s : Subcommand) → Stands f.subcommands p s → Owning f p (of_subcommand p s)
  argument_at : (p : ℕ) (a : Arg) → Stands f.args p a → Owning f (length f.subcommands + p) (of_argument p a)

pub owner_at : (f : Form) (i : ℕ) (o : Owner) → Stands (owners f) i o → Owning f i o
owner_at f i o h = elim (stands_either (each of_subcommand 0 f.subcommands) (each of_argument 0 f.args) i o h) [
  | inl k ↦ let r = each_stands of_subcommand 0 f.subcommands i i o (omega arith) k in subst (Owning f i) (sym r.2) (subcommand_at i r.0 r.1)
  | inr (j, e, k) ↦
      let r = each_stands of_argument 0 f.args j j o (omega arith) k in
      let q : length f.subcommands + j ≡ i = omega (arith, e, length_each of_subcommand 0 f.subcommands) in
      subst (Owning f i) (sym r.2) (subst (λ (n : ℕ). Owning f n (of_argument j r.0)) q (argument_at j r.0 r.1))
]

pub subcommand_owns : (f : Form) (p : ℕ) (s : Subcommand) → Stands f.subcommands p s → Stands (owners f) p (of_subcommand p s)
subcommand_owns f p s h = stands_left (each of_subcommand 0 f.subcommands) (each of_argument 0 f.args) p (of_subcommand p s) (stands_each of_subcommand 0 f.subcommands p p s (omega arith) h)

pub argument_owns : (f : Form) (p : ℕ) (a : Arg) → Stands f.args p a → Stands (owners f) (length f.subcommands + p) (of_argument p a)
argument_owns f p a h = stands_right (each of_subcommand 0 f.subcommands) (each of_argument 0 f.args) (length f.subcommands + p) p (of_argument p a)
    (omega (arith, length_each of_subcommand 0 f.subcommands)) (stands_each of_argument 0 f.args p p a (omega arith) h)

-- the spot of an owner's entry is its place in the row
pub owner_spot : (f : Form) (i : ℕ) (o : Owner) → Stands (owners f) i o → before_arguments f o.entry.kind + o.entry.place ≡ i
owner_spot f i o h = at i o (owner_at f i o h)
  where
    at : (i : ℕ) (o : Owner) → Owning f i o → before_arguments f o.entry.kind + o.entry.place ≡ i
    at _ _ (subcommand_at p s t) = omega arith
    at _ _ (argument_at p a t) = refl
