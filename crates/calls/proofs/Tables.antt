-- What one table keeps of another: the entries whose marks are free, in their order.
use Rattle.std.proofs.Common.{◌≡◌, ℕ, zero, suc, ◌<◌, Bool, true, false, cond, not, eqb, List, [], ◌∷◌, ◌++◌, Some, filter, sym, refl, ap, ◌∙◌, inl, inr, arith}
use Rattle.std.proofs.lemmas.Bool.{eqb-true, ne_eqb, not_from_false}
use Rattle.rules.specs.Order.{Stands}
use Rattle.rules.proofs.Spots.{nothing}
use Rattle.rules.proofs.Owners.{stands_left, stands_either}
use Rattle.calls.specs.Marked.{Marked}
use Rattle.calls.specs.Calls.{replaced, without}

-- every mark, or every mark but one, is free
abbrev pub Any : ℕ → Type 0
Any k = Unit {0}

abbrev pub Other : ℕ → ℕ → Type 0
Other x k = k ≡ x → ⊥

-- the entry at p of es, if its mark is free, stands in ds at `to p`, and before what was behind it
pub record Keeps {X : Type 0} (free : ℕ → Type 0) (es ds : List (Marked X)) (to : ℕ → ℕ) : Type 0 where
  pub stays : (p : ℕ) (e : Marked X) → Stands es p e → free e.mark → Stands ds (to p) e
  pub order : (p q : ℕ) (e : Marked X) → Stands es p e → free e.mark → p < q → to p < to q

abbrev pub here : ℕ → ℕ
here p = p

-- where nothing moves
keeps_here : {X : Type 0} {free : ℕ → Type 0} {es ds : List (Marked X)} → ((p : ℕ) (e : Marked X) → Stands es p e → free e.mark → Stands ds p e) → Keeps free es ds here
keeps_here stays = record { stays = stays; order = λ p q e s f lt. lt }

pub keeps_all : {X : Type 0} {free : ℕ → Type 0} (es : List (Marked X)) → Keeps free es es here
keeps_all es = keeps_here (λ p e s f. s)

-- One entry more.
pub keeps_added : {X : Type 0} {free : ℕ → Type 0} (es : List (Marked X)) (d : Marked X) → Keeps free es (es ++ d ∷ []) here
keeps_added es d = keeps_here (λ p e s f. stands_left es (d ∷ []) p e s)

last_is : {X : Type 0} (d e : X) (j : ℕ) → Stands (d ∷ []) j e → e ≡ d
last_is d e zero s = cc
last_is d e (suc j) s = nothing e s

pub keeps_before : {X : Type 0} (es : List (Marked X)) (d : Marked X) → Keeps (Other d.mark) (es ++ d ∷ []) es here
keeps_before es d = keeps_here (λ p e s f. elim (stands_either es (d ∷ []) p e s) [ inl h ↦ h | inr (j, q, h) ↦ absurd (f (ap (λ x. x.mark) (last_is d e j h))) ])

-- Another record under a mark.
module _ {X : Type 0} (k : ℕ) (x : X) where
  replaced_stands : (es : List (Marked X)) (p : ℕ) (e : Marked X) → Stands es p e → Other k e.mark → Stands (replaced k x es) p e
  replaced_stands [] p e s f = nothing e s
  replaced_stands (d ∷ es) zero e s f =
      let q : d ≡ e = cc in
      let m : eqb d.mark k ≡ false = ne_eqb d.mark k (λ h. f (sym (ap (λ x. x.mark) q) ∙ h)) in rw m s
  replaced_stands (d ∷ es) (suc p) e s f = replaced_stands es p e s f

  first_replaced : (d e : Marked X) (t : Bool) → eqb d.mark k ≡ t → Some (cond t (record { mark = d.mark; of = x }) d) ≡ Some e → Other k e.mark → Some d ≡ Some e
  first_replaced d e true m s f =
      let q : record { mark = d.mark; of = x } ≡ e = cc in
      absurd (f (sym (ap (λ x. x.mark) q) ∙ eqb-true d.mark k m))
  first_replaced d e false m s f = s

  stands_replaced : (es : List (Marked X)) (p : ℕ) (e : Marked X) → Stands (replaced k x es) p e → Other k e.mark → Stands es p e
  stands_replaced [] p e s f = nothing e s
  stands_replaced (d ∷ es) zero e s f = first_replaced d e (eqb d.mark k) refl s f
  stands_replaced (d ∷ es) (suc p) e s f = stands_replaced es p e s f

  pub keeps_replaced : (es : List (Marked X)) → Keeps (Other k) es (replaced k x es) here
  keeps_replaced es = keeps_here (replaced_stands es)

  first_mark : (d e : Marked X) (t : Bool) → Some (cond t (record { mark = d.mark; of = x }) d) ≡ Some e → e.mark ≡ d.mark
  first_mark d e true s = let q : e ≡ record { mark = d.mark; of = x } = cc in ap (λ z. z.mark) q
  first_mark d e false s = let q : e ≡ d = cc in ap (λ z. z.mark) q

  pub mark_replaced : (es : List (Marked X)) (p : ℕ) (e : Marked X) → Stands (replaced k x es) p e → (d : Marked X) × Stands es p d × (e.mark ≡ d.mark)
  mark_replaced [] p e s = nothing e s
  mark_replaced (d ∷ es) zero e s = (d, refl, first_mark d e (eqb d.mark k) s)
  mark_replaced (d ∷ es) (suc p) e s = mark_replaced es p e s

  pub keeps_replaced_back : (es : List (Marked X)) → Keeps (Other k) (replaced k x es) es here
  keeps_replaced_back es = keeps_here (stands_replaced es)

-- What passes a test: the place of an entry counts those kept before it.
module _ {X : Type 0} (test : X → Bool) where
  abbrev pub kept_to : List X → ℕ → ℕ
  kept_to [] p = 0
  kept_to (x ∷ xs) zero = 0
  kept_to (x ∷ xs) (suc p) = cond (test x) (suc (kept_to xs p)) (kept_to xs p)

  abbrev past : (ℕ → ℕ) → ℕ → ℕ
  past f zero = zero
  past f (suc p) = suc (f p)

  abbrev pub kept_from : List X → ℕ → ℕ
  kept_from [] p = p
  kept_from (x ∷ xs) p = cond (test x) (past (kept_from xs) p) (suc (kept_from xs p))

  one_kept : (t : Bool) (y : X) (ys : List X) (n : ℕ) (x : X) → Stands ys n x → Stands (cond t (y ∷ ys) ys) (cond t (suc n) n) x
  one_kept true y ys n x s = s
  one_kept false y ys n x s = s

  kept_stands : (xs : List X) (p : ℕ) (x : X) → Stands xs p x → test x ≡ true → Stands (filter test xs) (kept_to xs p) x
  kept_stands [] p x s e = nothing x s
  kept_stands (y ∷ xs) zero x s e = let q : y ≡ x = cc in let h : test y ≡ true = ap test q ∙ e in rw h s
  kept_stands (y ∷ xs) (suc p) x s e = one_kept (test y) y (filter test xs) (kept_to xs p) x (kept_stands xs p x s e)

  one_before : (t : Bool) (n m : ℕ) → n < m → cond t (suc n) n < cond t (suc m) m
  one_before true n m lt = omega arith
  one_before false n m lt = lt

  kept_order : (xs : List X) (p q : ℕ) (x : X) → Stands xs p x → test x ≡ true → p < q → kept_to xs p < kept_to xs q
  kept_order [] p q x s e lt = nothing x s
  kept_order (y ∷ xs) p zero x s e lt = absurd (omega arith)
  kept_order (y ∷ xs) zero (suc q) x s e lt = let k : y ≡ x = cc in let h : test y ≡ true = ap test k ∙ e in rw h (omega arith)
  kept_order (y ∷ xs) (suc p) (suc q) x s e lt = one_before (test y) (kept_to xs p) (kept_to xs q) (kept_order xs p q x s e (omega arith))

  one_from : (t : Bool) (y x : X) (xs ys : List X) (f : ℕ → ℕ) (p : ℕ) → ((n : ℕ) → Stands ys n x → Stands xs (f n) x) → Stands (cond t (y ∷ ys) ys) p x → Stands (y ∷ xs) (cond t (past f p) (suc (f p))) x
  one_from true y x xs ys f zero h s = s
  one_from true y x xs ys f (suc p) h s = h p s
  one_from false y x xs ys f p h s = h p s

  stands_kept : (xs : List X) (p : ℕ) (x : X) → Stands (filter test xs) p x → Stands xs (kept_from xs p) x
  stands_kept [] p x s = s
  stands_kept (y ∷ xs) p x s = one_from (test y) y x xs (filter test xs) (kept_from xs) p (λ n. stands_kept xs n x) s

  past_order : (t : Bool) (f : ℕ → ℕ) (p q : ℕ) → ((n m : ℕ) → n < m → f n < f m) → p < q → cond t (past f p) (suc (f p)) < cond t (past f q) (suc (f q))
  past_order true f p zero h lt = absurd (omega arith)
  past_order true f zero (suc q) h lt = omega arith
  past_order true f (suc p) (suc q) h lt = omega (arith, h p q (omega arith))
  past_order false f p q h lt = omega (arith, h p q lt)

  from_order : (xs : List X) (p q : ℕ) → p < q → kept_from xs p < kept_from xs q
  from_order [] p q lt = lt
  from_order (y ∷ xs) p q lt = past_order (test y) (kept_from xs) p q (from_order xs) lt

-- One mark less.
module _ {X : Type 0} (k : ℕ) where
  abbrev pub unlike : Marked X → Bool
  unlike e = not (eqb e.mark k)

  other_unlike : (e : Marked X) → Other k e.mark → unlike e ≡ true
  other_unlike e f = not_from_false (eqb e.mark k) (ne_eqb e.mark k f)

  pub keeps_without : (es : List (Marked X)) → Keeps (Other k) es (without k es) (kept_to unlike es)
  keeps_without es = record {
    stays = λ p e s f. kept_stands unlike es p e s (other_unlike e f);
    order = λ p q e s f. kept_order unlike es p q e s (other_unlike e f);
  }

  pub keeps_without_back : {free : ℕ → Type 0} (es : List (Marked X)) → Keeps free (without k es) es (kept_from unlike es)
  keeps_without_back es = record {
    stays = λ p e s f. stands_kept unlike es p e s;
    order = λ p q e s f. from_order unlike es p q;
  }
