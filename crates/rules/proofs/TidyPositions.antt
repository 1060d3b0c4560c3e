-- Of a form with no breach: the positional arguments carry 1 to n once each.
use Rattle.std.proofs.Common.{◌≡◌, ℕ, zero, suc, ◌+◌, ◌≤◌, max, Bool, true, cond, ◌&&◌, eqb, ltb, leb, ◌⊎◌, List, [], ◌∷◌, ◌++◌, length, Some, None, Option, sym, refl, ap, ◌∙◌, subst, inl, inr, arith}
use Rattle.std.proofs.lemmas.Bool.{eqb-true, cases_eq, cases_lt}
use Rattle.std.proofs.lemmas.Bool.Decides.{nat_tests}
use Rattle.form.specs.Model.{Name, Arg, Form}
use Rattle.form.specs.Keys.{listed}
use Rattle.rules.specs.declared.breach.Breach.{Breach}
use Rattle.rules.specs.Order.{Stands}
use Rattle.rules.specs.Words.{Positional, index_or_0, indices, position_count, Highest}
use Rattle.rules.specs.Rows.{top}
use Rattle.rules.specs.Breaks.{Breaks, rule_9, rule_10, rule_12, rule_22, rule_40, rule_48}
use Rattle.rules.specs.Tidy.{One, flagless, positionals, Carries, MarkedLast}
use Rattle.rules.proofs.TidyPlaces.{nothing, one_place}
use Rattle.rules.proofs.TidyCounts.{count, count_some, count_few, fill_once}

-- no index is above the top one
top_le : (xs : List Arg) (p : ℕ) (a : Arg) (k : ℕ) → Stands xs p a → a.index ≡ Some k → k ≤ top (indices xs)
top_le [] p a k h e = nothing a h
top_le (x ∷ xs) zero a k h e =
    let same : x ≡ a = cc in
    subst (λ (o : Option ℕ). k ≤ top (listed o ++ indices xs)) (sym (ap (λ (y : Arg). y.index) same ∙ e)) (omega arith)
top_le (x ∷ xs) (suc p) a k h e = go x.index (top_le xs p a k h e)
  where
    go : (o : Option ℕ) → k ≤ top (indices xs) → k ≤ top (listed o ++ indices xs)
    go None r = r
    go (Some j) r = omega arith

-- some argument has the index h
abbrev Met : List Arg → ℕ → Type 0
Met xs h = (p : ℕ) × (a : Arg) × Stands xs p a × (a.index ≡ Some h)

-- the top one is some argument's, where there is one
top_met : (xs : List Arg) → (top (indices xs) ≡ 0) ⊎ Met xs (top (indices xs))
top_met [] = inl refl
top_met (x ∷ xs) = go x.index refl (elim (top_met xs) [ inl e ↦ inl e | inr m ↦ inr (suc m.0, m.1, m.2, m.3) ])
  where
    go : (o : Option ℕ) → x.index ≡ o → (top (indices xs) ≡ 0) ⊎ Met (x ∷ xs) (top (indices xs)) → (top (listed o ++ indices xs) ≡ 0) ⊎ Met (x ∷ xs) (top (listed o ++ indices xs))
    go None e r = r
    go (Some j) e r = elim (cases_lt j (top (indices xs))) [
      | inl l ↦ (let d : top (indices xs) ≡ max j (top (indices xs)) = omega arith in subst (λ n. (n ≡ 0) ⊎ Met (x ∷ xs) n) d r)
      | inr l ↦ (let d : j ≡ max j (top (indices xs)) = omega arith in inr (0, x, refl, e ∙ ap (λ n. Some n) d))
    ]

-- so it is the highest position key
pub top_highest : (f : Form) → Highest f (top (indices f.args))
top_highest f = record { top = top_le f.args; met = top_met f.args }

-- arguments with an index are positional: there are no more of them
few_indices : (xs : List Arg) → ((p : ℕ) (a : Arg) (k : ℕ) → Stands xs p a → a.index ≡ Some k → Positional a) → length (indices xs) ≤ positionals xs
few_indices [] h = omega arith
few_indices (x ∷ xs) h = go x.index refl (few_indices xs (λ p. h (suc p)))
  where
    go : (o : Option ℕ) → x.index ≡ o → length (indices xs) ≤ positionals xs → length (listed o ++ indices xs) ≤ flagless x.letter x.long + positionals xs
    go None e r = omega arith
    go (Some k) e r = let b = h 0 x k refl e in rw (b.0, b.1) (omega arith)

-- positional arguments pass a test: there are no more of them than pass it
few_positionals : (t : Arg → Bool) (xs : List Arg) → ((p : ℕ) (a : Arg) → Stands xs p a → Positional a → t a ≡ true) → positionals xs ≤ count t xs
few_positionals t [] h = omega arith
few_positionals t (x ∷ xs) h = go x.letter x.long refl refl (few_positionals t xs (λ p. h (suc p)))
  where
    go : (c : Option ℕ) (l : Option Name) → x.letter ≡ c → x.long ≡ l → positionals xs ≤ count t xs → flagless c l + positionals xs ≤ cond (t x) 1 0 + count t xs
    go None None c l r = rw (h 0 x refl (c, l)) (omega arith)
    go None (Some y) c l r = omega arith
    go (Some n) o c l r = omega arith

module _ (f : Form) (none : (b : Breach) → Breaks f b → ⊥) where
  -- what has an index is positional
  pub no_other : (p : ℕ) (a : Arg) (k : ℕ) → Stands f.args p a → a.index ≡ Some k → Positional a
  no_other p a k h e = (
    bare a.letter (λ c d. none _ (rule_9 p a h (k, e) (inl (c, d)))),
    bare a.long (λ x d. none _ (rule_9 p a h (k, e) (inr (x, d)))),
  )
    where
      bare : {X : Type 0} (o : Option X) → ((x : X) → o ≡ Some x → ⊥) → o ≡ None
      bare None n = refl
      bare (Some x) n = absurd (n x refl)

  highest_is : top (indices f.args) ≡ position_count f
  highest_is = elim (cases_eq (top (indices f.args)) (position_count f)) [ inl e ↦ e | inr n ↦ absurd (none _ (rule_40 _ (top_highest f) n)) ]

  pub within : (p : ℕ) (a : Arg) → Stands f.args p a → Positional a → (k : ℕ) × (a.index ≡ Some k) × (1 ≤ k) × (k ≤ positionals f.args)
  within p a h b = go a.index refl
    where
      go : (o : Option ℕ) → a.index ≡ o → (k : ℕ) × (a.index ≡ Some k) × (1 ≤ k) × (k ≤ positionals f.args)
      go None e = absurd (none _ (rule_12 p a h b e))
      go (Some zero) e = absurd (none _ (rule_10 p a h e))
      go (Some (suc k)) e = (suc k, e, omega arith, omega (arith, top_le f.args p a (suc k) h e, highest_is, few_indices f.args no_other))

  pub one_index : (k p q : ℕ) (a b : Arg) → Stands f.args p a → Stands f.args q b → a.index ≡ Some k → b.index ≡ Some k → p ≡ q
  one_index k p q a b h l i j =
      let s = no_other p a k h i in
      let t = no_other q b k l j in
      one_place p q (λ lt. none _ (rule_22 p q a b k lt h l s t i j)) (λ lt. none _ (rule_22 q p b a k lt l h t s j i))

  -- an argument whose number is suc k has that as its index
  carries : (k : ℕ) (a : Arg) → eqb (index_or_0 a.index) (suc k) ≡ true → a.index ≡ Some (suc k)
  carries k a t = go a.index refl
    where
      go : (o : Option ℕ) → a.index ≡ o → a.index ≡ Some (suc k)
      go None i = let z : 0 ≡ suc k = eqb-true 0 (suc k) (subst (λ (o : Option ℕ). eqb (index_or_0 o) (suc k) ≡ true) i t) in absurd (omega arith)
      go (Some j) i = i ∙ ap (λ n. Some n) (eqb-true j (suc k) (subst (λ (o : Option ℕ). eqb (index_or_0 o) (suc k) ≡ true) i t))

  few : (k : ℕ) → count (λ a. eqb (index_or_0 a.index) (suc k)) f.args ≤ 1
  few k = count_few (λ a. eqb (index_or_0 a.index) (suc k)) f.args (λ p q a b lt h l s t. let e = one_index (suc k) p q a b h l (carries k a s) (carries k b t) in omega arith)

  numbered : (p : ℕ) (a : Arg) → Stands f.args p a → Positional a → (ltb 0 (index_or_0 a.index) && leb (index_or_0 a.index) (positionals f.args)) ≡ true
  numbered p a h b = let w = within p a h b in let l = w.2 in let m = w.3 in rw w.1 (grind (arith, nat_tests))

  pub once : (k : ℕ) → 1 ≤ k → k ≤ positionals f.args → One (Carries f k)
  once zero low high = absurd (omega arith)
  once (suc k) low high =
      let full = few_positionals (λ a. ltb 0 (index_or_0 a.index) && leb (index_or_0 a.index) (positionals f.args)) f.args numbered in
      let s = count_some (λ a. eqb (index_or_0 a.index) (suc k)) f.args (omega (arith, fill_once (λ (a : Arg). index_or_0 a.index) f.args (positionals f.args) full few k (omega arith))) in
      let i = carries k s.1 s.3 in
      record {
        place = s.0;
        here = (s.1, s.2, no_other s.0 s.1 (suc k) s.2 i, i);
        alone = λ q h. one_index (suc k) q s.0 h.0 s.1 h.1 s.2 h.3 i;
      }

  pub one_last : (p q : ℕ) → MarkedLast f p → MarkedLast f q → p ≡ q
  one_last p q h l = one_place p q (λ lt. none _ (rule_48 p q h.0 l.0 lt h.1 l.1 h.2 h.3 l.2 l.3)) (λ lt. none _ (rule_48 q p l.0 h.0 lt l.1 h.1 l.2 l.3 h.2 h.3))
