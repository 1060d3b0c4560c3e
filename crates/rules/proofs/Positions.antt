-- The tests on positions decide the words of the page: the highest position, the two ends, what is settled above.
use Rattle.std.proofs.Common.{◌≡◌, ℕ, zero, suc, ◌-◌, ◌<◌, ◌≤◌, max, true, false, not, ◌&&◌, ◌⊎◌, List, [], ◌∷◌, ◌++◌, Some, None, Decides, Option, sym, refl, ap, ◌∙◌, subst, inl, inr, arith}
use Rattle.std.specs.List.{range_with_len}
use Rattle.std.proofs.lemmas.Bool.{both_ways, cases_Bool, cases_lt, cond-true}
use Rattle.form.specs.Model.{Arg, Form, blank_arg}
use Rattle.form.specs.Settings.{arg_set}
use Rattle.form.specs.Keys.{listed}
use Rattle.form.specs.declared.arg_settings.ArgSettings.TheVariants.{Required, Last}
use Rattle.rules.specs.Order.{Stands}
use Rattle.rules.specs.Words.{Has, Lacks, index_or_0, indices, position_count, Highest, FirstAt, IsMultipleElsewhere, Ends, OpenBelow}
use Rattle.rules.specs.Rows.{positional, multiple, top, highest, at_highest, multiple_elsewhere, both_ends, ends_at, ends, first_at, arg_of, open_below, settled, settled_above}
use Rattle.rules.proofs.Spots.{nothing, stands_getD}
use Rattle.rules.proofs.Firsts.{found_first, first_found}
use Rattle.rules.proofs.Deciding.{decides_like, on, off, both, neither, equal, less, among, counting_stands, stands_counting}
use Rattle.rules.proofs.Decided.{positional_decides, multiple_decides, open_decides}

-- the highest of the position keys
top_listed : (o : Option ℕ) (ns : List ℕ) → top (listed o ++ ns) ≡ max (index_or_0 o) (top ns)
top_listed None ns = omega arith
top_listed (Some n) ns = refl

top_above : (l : List Arg) (p : ℕ) (a : Arg) (n : ℕ) → Stands l p a → a.index ≡ Some n → n ≤ top (indices l)
top_above [] p a n s e = nothing a s
top_above (b ∷ l) zero a n s e =
    let w : b ≡ a = cc in
    let i : index_or_0 b.index ≡ n = ap (λ (x : Arg). index_or_0 x.index) w ∙ ap index_or_0 e in
    omega (arith, top_listed b.index (indices l))
top_above (b ∷ l) (suc p) a n s e = let h = top_above l p a n s e in omega (arith, top_listed b.index (indices l))

-- a list's top is 0 or a position of it
abbrev Met : List Arg → ℕ → Type 0
Met l h = (h ≡ 0) ⊎ ((p : ℕ) × (a : Arg) × Stands l p a × (a.index ≡ Some h))

met_one : (b : Arg) (l : List Arg) (o : Option ℕ) (t : ℕ) → b.index ≡ o → Met l t → Met (b ∷ l) (max (index_or_0 o) t)
met_one b l None t e m = let q : t ≡ max 0 t = omega arith in elim m [ inl z ↦ inl (omega arith) | inr (p, a, s, i) ↦ inr (suc p, a, s, i ∙ ap (λ x. Some x) q) ]
met_one b l (Some n) t e m = elim (cases_lt n t) [
  | inl lt ↦ let q : t ≡ max n t = omega arith in elim m [ inl z ↦ absurd (omega arith) | inr (p, a, s, i) ↦ inr (suc p, a, s, i ∙ ap (λ x. Some x) q) ]
  | inr le ↦ let q : n ≡ max n t = omega arith in inr (0, b, refl, e ∙ ap (λ x. Some x) q)
]

top_met : (l : List Arg) → Met l (top (indices l))
top_met [] = inl refl
top_met (b ∷ l) = subst (Met (b ∷ l)) (sym (top_listed b.index (indices l))) (met_one b l b.index (top (indices l)) refl (top_met l))

pub highest_is : (f : Form) → Highest f (highest f)
highest_is f = record { top = top_above f.args; met = top_met f.args }

highest_below : (f : Form) (h k : ℕ) → Highest f h → Highest f k → h ≤ k
highest_below f h k a b = elim a.met [ inl z ↦ omega arith | inr (p, x, s, i) ↦ b.top p x h s i ]

pub highest_one : (f : Form) (h : ℕ) → Highest f h → highest f ≡ h
highest_one f h a = let p = highest_below f h (highest f) a (highest_is f) in let q = highest_below f (highest f) h (highest_is f) a in omega arith

-- the argument stands at the highest position
pub at_highest_decides : (f : Form) (a : Arg) → Decides (at_highest f a) (index_or_0 a.index ≡ highest f)
at_highest_decides f a = equal (index_or_0 a.index) (highest f)

elsewhere_decides : (f : Form) → Decides (multiple_elsewhere f) (IsMultipleElsewhere f (highest f))
elsewhere_decides f = decides_like (λ (p, a, s, (x, (m, n))). (p, a, s, x, m, n)) (λ (p, a, s, x, m, n). (p, a, s, (x, (m, n))))
    (among (λ a. positional a && (multiple a && not (at_highest f a))) f.args (λ a. both (positional_decides a) (both (multiple_decides a) (neither (at_highest_decides f a)))))

pub open_below_decides : (f : Form) (n : ℕ) → Decides (open_below f n) (OpenBelow f n)
open_below_decides f n = decides_like (λ (p, a, s, (x, (l, (t, o)))). (p, a, s, x, l, t, o)) (λ (p, a, s, x, l, t, o). (p, a, s, (x, (l, (t, o)))))
    (among _ f.args (λ a. both (positional_decides a) (both (less (index_or_0 a.index) n) (both (off a.terminated) (open_decides a)))))

-- the two ends
both_are : (o w : Option ℕ) (i : ℕ) (e : ℕ × ℕ) → Stands (both_ends o w) i e → (o ≡ Some e.0) × (w ≡ Some e.1)
both_are None w i e s = nothing e s
both_are (Some p) None i e s = nothing e s
both_are (Some p) (Some q) zero e s = let u : (p, q) ≡ e = cc in (ap (λ (x : ℕ × ℕ). Some x.0) u, ap (λ (x : ℕ × ℕ). Some x.1) u)
both_are (Some p) (Some q) (suc i) e s = nothing e s

-- l and s are the arguments of the ends at the places e
pub record Ended (f : Form) (e : ℕ × ℕ) : Type 0 where
  pub l : Arg
  pub s : Arg
  pub ends : Ends f e.0 l e.1 s
  pub l_is : arg_of f e.0 ≡ l
  pub s_is : arg_of f e.1 ≡ s

ends_at_are : (f : Form) (n i : ℕ) (e : ℕ × ℕ) → Highest f n → IsMultipleElsewhere f n → Stands (ends_at n f.args) i e → Ended f e
ends_at_are f zero i e h m s = nothing e s
ends_at_are f (suc n) i e h m s =
    let b = both_are (first_at (suc n) 0 f.args) (first_at n 0 f.args) i e s in
    let x = found_first f (suc n) e.0 b.0 in
    let y = found_first f n e.1 b.1 in
    record {
      l = x.0;
      s = y.0;
      ends = record { n = n; highest = h; end = x.1; before = y.1; elsewhere = m };
      l_is = stands_getD f.args e.0 x.0 blank_arg x.1.stands;
      s_is = stands_getD f.args e.1 y.0 blank_arg y.1.stands;
    }

pub ends_are : (f : Form) (i : ℕ) (e : ℕ × ℕ) → Stands (ends f) i e → Ended f e
ends_are f i e s = elim (cases_Bool (multiple_elsewhere f)) [
  | inl t ↦ ends_at_are f (highest f) i e (highest_is f) ((elsewhere_decides f).0 t) (rw t at s)
  | inr t ↦ nothing e (rw t at s)
]

pub are_ends : (f : Form) (p q : ℕ) (l s : Arg) → Ends f p l q s → Stands (ends f) 0 (p, q)
are_ends f p q l s x =
    let h = highest_one f (suc x.n) x.highest in
    let m = (elsewhere_decides f).1 (subst (IsMultipleElsewhere f) (sym h) x.elsewhere) in
    let a = first_found f (suc x.n) p l x.end in
    let b = first_found f x.n q s x.before in
    let u : ends f ≡ ends_at (highest f) f.args = cond-true (multiple_elsewhere f) (ends_at (highest f) f.args) [] m in
    let v : ends_at (suc x.n) f.args ≡ (p, q) ∷ [] = rw (a, b) in
    subst (λ (l : List (ℕ × ℕ)). Stands l 0 (p, q)) (sym (u ∙ ap (λ (k : ℕ). ends_at k f.args) h ∙ v)) refl

-- the first argument of a position above n is required and not last
abbrev pub Settled : Form → ℕ → Type 0
Settled f m = (q : ℕ) × (b : Arg) × FirstAt f m q b × Has b Required × Lacks b Last

settled_decides : (f : Form) (m : ℕ) → Decides (settled f m) (Settled f m)
settled_decides f m = (λ h. to (first_at m 0 f.args) refl h, from)
  where
    to : (o : Option ℕ) → first_at m 0 f.args ≡ o → settled f m ≡ true → Settled f m
    to None e h = absurd (both_ways false refl (rw e at h))
    to (Some q) e h =
        let x = found_first f m q e in
        let g = stands_getD f.args q x.0 blank_arg x.1.stands in
        let k : (arg_set (arg_of f q).settings Required && not (arg_set (arg_of f q).settings Last)) ≡ true = rw e at h in
        let r = (both (on (arg_set x.0.settings Required)) (off (arg_set x.0.settings Last))).0 (rw g at k) in
        (q, x.0, x.1, r.0, r.1)

    from : Settled f m → settled f m ≡ true
    from (q, b, x, r, l) =
        let e = first_found f m q b x in
        let g = stands_getD f.args q b blank_arg x.stands in
        rw (e, g) ((both (on (arg_set b.settings Required)) (off (arg_set b.settings Last))).1 (r, l))

pub settled_above_decides : (f : Form) (n : ℕ) → Decides (settled_above f n) ((m : ℕ) × (n < m) × (m ≤ position_count f) × Settled f m)
settled_above_decides f n = decides_like
    (λ (i, m, s, x). let c = counting_stands (suc n) (position_count f - n) i m s in (m, omega (arith, c.0), omega (arith, c.0, c.1), x))
    (λ (m, lt, le, x). (m - suc n, m, stands_counting (suc n) (position_count f - n) (m - suc n) m (omega arith) (omega arith), x))
    (among (settled f) (range_with_len (suc n) (position_count f - n)) (settled_decides f))
