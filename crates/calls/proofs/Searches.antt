-- Whether a breach names a mark, and whether the entry of a mark has an id.
use Rattle.std.proofs.Common.{◌≡◌, ℕ, zero, suc, Bool, true, false, ◌⊎◌, List, [], ◌∷◌, Some, None, Decides, Option, refl, ap, ◌∙◌, subst, inl, inr}
use Rattle.std.specs.Str.{bytes_eq}
use Rattle.std.proofs.lemmas.Bool.{cases_eq, both_ways}
use Rattle.std.proofs.lemmas.Slice.Eq.{bytes_eq-Decides}
use Rattle.form.specs.Model.{Name}
use Rattle.rules.specs.Order.{Stands}
use Rattle.rules.proofs.Spots.{nothing}
use Rattle.calls.specs.Marked.{Marked, MarkedForm}
use Rattle.calls.specs.Law.{MarkedEntry, MarkedBreach, Names, MarkedId, HasId}

-- it holds, or it does not
abbrev pub EitherWay : Type 0 → Type 0
EitherWay A = A ⊎ (A → ⊥)

both? : {A B : Type 0} → EitherWay A → EitherWay B → EitherWay (A × B)
both? (inl a) (inl b) = inl (a, b)
both? (inl a) (inr n) = inr (λ h. n h.1)
both? (inr n) d = inr (λ h. n h.0)

one? : {A B : Type 0} → EitherWay A → EitherWay B → EitherWay (A ⊎ B)
one? (inl a) d = inl (inl a)
one? (inr n) (inl b) = inl (inr b)
one? (inr n) (inr m) = inr (λ h. elim h [ inl a ↦ n a | inr b ↦ m b ])

same_name? : (x y : Name) → EitherWay (x ≡ y)
same_name? x y = at (bytes_eq x y) (bytes_eq-Decides x y)
  where
    at : (t : Bool) → Decides t (x ≡ y) → EitherWay (x ≡ y)
    at true d = inl (d.0 refl)
    at false d = inr (λ e. both_ways false refl (d.1 e))

entry? : (s : Option MarkedEntry) (k : ℕ) → EitherWay ((e : MarkedEntry) × (s ≡ Some e) × (e.mark ≡ k))
entry? None k = inr (λ h. nothing h.0 h.1)
entry? (Some d) k = elim (cases_eq d.mark k) [ inl q ↦ inl (d, refl, q) | inr n ↦ inr (λ (e, s, q). let i : d ≡ e = cc in n (ap (λ z. z.mark) i ∙ q)) ]

pub names? : (t : MarkedBreach) (k : ℕ) → EitherWay (Names t k)
names? t k = one? (entry? t.first k) (entry? t.second k)

module _ {X : Type 0} (id : X → Name) (k : ℕ) (x : Name) where
  abbrev Is : Marked X → Type 0
  Is e = (e.mark ≡ k) × (id e.of ≡ x)

  later : (d : Marked X) (es : List (Marked X)) → (Is d → ⊥) → (MarkedId id es k x → ⊥) → (p : ℕ) (e : Marked X) → Stands (d ∷ es) p e → Is e → ⊥
  later d es unlike none zero e s h = let i : e ≡ d = cc in unlike (subst Is i h)
  later d es unlike none (suc p) e s h = none (p, e, s, h.0, h.1)

  called? : (es : List (Marked X)) → EitherWay (MarkedId id es k x)
  called? [] = inr (λ h. nothing h.1 h.2)
  called? (d ∷ es) = at (both? (cases_eq d.mark k) (same_name? (id d.of) x)) (called? es)
    where
      at : EitherWay (Is d) → EitherWay (MarkedId id es k x) → EitherWay (MarkedId id (d ∷ es) k x)
      at (inl h) r = inl (0, d, refl, h.0, h.1)
      at (inr unlike) (inl (p, e, s, q, i)) = inl (suc p, e, s, q, i)
      at (inr unlike) (inr none) = inr (λ (p, e, s, q, i). later d es unlike none p e s (q, i))

pub has_id? : (m : MarkedForm) (k : ℕ) (x : Name) → EitherWay (HasId m k x)
has_id? m k x = one? (called? (λ r. r.id) k x m.args) (called? (λ y. y) k x m.groups)
