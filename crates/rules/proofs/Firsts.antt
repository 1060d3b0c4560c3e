-- The search for the first argument of a position finds what the page calls the first.
use Rattle.std.proofs.Common.{◌≡◌, ℕ, zero, suc, ◌+◌, ◌<◌, Bool, true, false, cond, List, [], ◌∷◌, Some, None, Decides, Option, refl, ap, ◌∙◌, subst, inl, inr, arith}
use Rattle.std.proofs.lemmas.Bool.{eqb-true, eq-eqb, both_ways, cases_Bool}
use Rattle.form.specs.Model.{Arg, Form}
use Rattle.rules.specs.Order.{Stands}
use Rattle.rules.specs.Words.{FirstAt}
use Rattle.rules.specs.Rows.{is_number, first_at}
use Rattle.rules.proofs.Spots.{nothing}

pub number_decides : (n : ℕ) (o : Option ℕ) → Decides (is_number n o) (o ≡ Some n)
number_decides n None = (λ h. absurd (both_ways false refl h), λ e. nothing n e)
number_decides n (Some k) = (λ h. ap (λ x. Some x) (eqb-true k n h), λ e. let q : k ≡ n = cc in eq-eqb k n q)

-- the first place in a list where the position is n
pub record First (n : ℕ) (l : List Arg) (i : ℕ) (a : Arg) : Type 0 where
  pub stands : Stands l i a
  pub index : a.index ≡ Some n
  pub first : (q : ℕ) (b : Arg) → q < i → Stands l q b → b.index ≡ Some n → ⊥

further : (n : ℕ) (b : Arg) (l : List Arg) (i : ℕ) (a : Arg) → (b.index ≡ Some n → ⊥) → First n l i a → First n (b ∷ l) (suc i) a
further n b l i a ne h = record { stands = h.stands; index = h.index; first = λ q c lt s. before q c lt s }
  where
    before : (q : ℕ) (c : Arg) → q < suc i → Stands (b ∷ l) q c → c.index ≡ Some n → ⊥
    before zero c lt s e = let w : b ≡ c = cc in ne (ap (λ (x : Arg). x.index) w ∙ e)
    before (suc q) c lt s e = h.first q c (omega arith) s e

pub search_first : (n m : ℕ) (l : List Arg) (p : ℕ) → first_at n m l ≡ Some p → (i : ℕ) × (a : Arg) × (p ≡ m + i) × First n l i a
search_first n m [] p e = nothing p e
search_first n m (b ∷ l) p e = at (is_number n b.index) refl e (search_first n (suc m) l p)
  where
    at : (t : Bool) → is_number n b.index ≡ t → cond t (Some m) (first_at n (suc m) l) ≡ Some p
        → (first_at n (suc m) l ≡ Some p → (i : ℕ) × (a : Arg) × (p ≡ suc m + i) × First n l i a) → (i : ℕ) × (a : Arg) × (p ≡ m + i) × First n (b ∷ l) i a
    at true h q on = let w : m ≡ p = cc in (0, b, omega arith, record { stands = refl; index = (number_decides n b.index).0 h; first = λ r c lt. absurd (omega arith) })
    at false h q on = let r = on q in (suc r.0, r.1, omega (arith, r.2), further n b l r.0 r.1 (λ k. both_ways (is_number n b.index) h ((number_decides n b.index).1 k)) r.3)

pub first_search : (n m : ℕ) (l : List Arg) (i : ℕ) (a : Arg) → First n l i a → (p : ℕ) × (p ≡ m + i) × (first_at n m l ≡ Some p)
first_search n m [] i a h = nothing a h.stands
first_search n m (b ∷ l) zero a h =
    let w : b ≡ a = let s : Some b ≡ Some a = h.stands in cc in
    let t = (number_decides n b.index).1 (ap (λ (x : Arg). x.index) w ∙ h.index) in
    (m, omega arith, rw t)
first_search n m (b ∷ l) (suc i) a h =
    let t : is_number n b.index ≡ false = elim (cases_Bool (is_number n b.index)) [ inl y ↦ absurd (h.first 0 b (omega arith) refl ((number_decides n b.index).0 y)) | inr y ↦ y ] in
    let r = first_search n (suc m) l i a (record { stands = h.stands; index = h.index; first = λ q c lt s. h.first (suc q) c (omega arith) s }) in
    (r.0, omega (arith, r.1), rw (t, r.2))

-- on a form, as the page says it
pub found_first : (f : Form) (n p : ℕ) → first_at n 0 f.args ≡ Some p → (a : Arg) × FirstAt f n p a
found_first f n p e =
    let r = search_first n 0 f.args p e in
    let q : r.0 ≡ p = omega (arith, r.2) in
    let h : First n f.args p r.1 = subst (λ (i : ℕ). First n f.args i r.1) q r.3 in
    (r.1, record { stands = h.stands; index = h.index; first = h.first })

pub first_found : (f : Form) (n p : ℕ) (a : Arg) → FirstAt f n p a → first_at n 0 f.args ≡ Some p
first_found f n p a h =
    let r = first_search n 0 f.args p a (record { stands = h.stands; index = h.index; first = h.first }) in
    let q : r.0 ≡ p = omega (arith, r.1) in
    r.2 ∙ ap (λ x. Some x) q
