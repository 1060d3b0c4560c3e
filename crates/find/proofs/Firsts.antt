-- The first key that is the one sought.
use Rattle.std.proofs.Common.{◌≡◌, ℕ, zero, suc, ◌+◌, ◌<◌, ◌≤◌, Bool, true, false, cond, List, [], ◌∷◌, length, drop, Some, None, Option, Result, sym, refl, ap, ◌∙◌, add-one, arith}
use borrow.Author.Tests.{clash}
use Rattle.std.specs.Option.{ok_or}
use Rattle.std.specs.List.{slice_get}
use Rattle.form.specs.declared.refusal.Refusal.{Refusal}
use Rattle.std.proofs.lemmas.List.{drop_all}
use Rattle.form.specs.Keys.{KeyName, Key, same_key, first_key}
use Rattle.form.specs.SameKey.{same_key_is, same_key_self}
use Rattle.form.specs.declared.refusal.Refusal.TheVariants.{NoSuchKey}
use Rattle.find.specs.Found.{KeyAt, Found}

drop_key : (i : ℕ) (ks : List Key) (k : Key) → Some k ≡ slice_get ks i → drop i ks ≡ k ∷ drop (suc i) ks
drop_key i [] k e = absurd (let z : ◌≡◌ {A = ℕ} 0 1 = cc in omega arith)
drop_key zero (x ∷ ks) k e = ap (λ y. y ∷ ks) (let z : x ≡ k = cc in z)
drop_key (suc i) (x ∷ ks) k e = drop_key i ks k e

pub first_yes : (s : KeyName) (i : ℕ) (ks : List Key) (k : Key) (b : Bool) → Some k ≡ slice_get ks i → b ≡ same_key s k.name → b ≡ true → first_key s (drop i ks) ≡ Some k.place
first_yes s i ks k b e m t = rw (drop_key i ks k e, ← m, t)

pub first_no : (s : KeyName) (i : ℕ) (ks : List Key) (k : Key) (b : Bool) → Some k ≡ slice_get ks i → b ≡ same_key s k.name → b ≡ false → first_key s (drop i ks) ≡ first_key s (drop (i + 1) ks)
first_no s i ks k b e m t = rw (drop_key i ks k e, ← m, t, add-one)

pub first_all : (s : KeyName) (i : ℕ) (ks : List Key) → length ks ≤ i → first_key s (drop i ks) ≡ None
first_all s i ks h = rw drop_all

is_same : (k l : KeyName) → l ≡ k → same_key k l ≡ true
is_same k l e = rw e (same_key_self k)

later : (k : KeyName) (x : Key) (ks : List Key) (o : Option ℕ) → (x.name ≡ k → ⊥) → Found k ks (ok_or o NoSuchKey) → Found k (x ∷ ks) (ok_or o NoSuchKey)
later k x ks None ne f = (refl, none)
  where
    none : (i : ℕ) (d : Key) → KeyAt (x ∷ ks) i d → d.name ≡ k → ⊥
    none zero d h e = ne (let q : x ≡ d = cc in ap (λ (y : Key). y.name) q ∙ e)
    none (suc i) d h e = f.1 i d h e
later k x ks (Some p) ne f = (suc f.0, f.1, f.2, f.3, f.4, before)
  where
    before : (j : ℕ) (d : Key) → j < suc f.0 → KeyAt (x ∷ ks) j d → d.name ≡ k → ⊥
    before zero d lt h e = ne (let q : x ≡ d = cc in ap (λ (y : Key). y.name) q ∙ e)
    before (suc j) d lt h e = f.5 j d (omega arith) h e

here : (k : KeyName) (x : Key) (ks : List Key) (b : Bool) → same_key k x.name ≡ b → Found k ks (ok_or (first_key k ks) NoSuchKey) → Found k (x ∷ ks) (ok_or (cond b (Some x.place) (first_key k ks)) NoSuchKey)
here k x ks true e f = (0, x, refl, sym (same_key_is k x.name e), refl, λ j d lt. absurd (omega arith))
here k x ks false e f = later k x ks (first_key k ks) (λ q. clash (sym e ∙ is_same k x.name q)) f

found : (k : KeyName) (ks : List Key) → Found k ks (ok_or (first_key k ks) NoSuchKey)
found k [] = (refl, λ i d h e. let z : ◌≡◌ {A = ℕ} 0 1 = cc in omega arith)
found k (x ∷ ks) = here k x ks (same_key k x.name) refl (found k ks)

-- what the computed answer means
pub found_as : (k : KeyName) (ks : List Key) (r : Result ℕ Refusal) → r ≡ ok_or (first_key k ks) NoSuchKey → Found k ks r
found_as k ks r e = rw e (found k ks)
