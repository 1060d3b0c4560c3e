-- Tests that came out as the rows of a table say, and rows told in parts.
use Rattle.std.proofs.Common.{◌≡◌, ℕ, suc, Bool, List, [], ◌∷◌, ◌++◌, sym, refl, ap, ◌∙◌, subst, append_assoc, append-nil}
use Rattle.form.specs.Model.{Arg, Form}
use Rattle.rules.specs.declared.rule.Rule.{Rule}
use Rattle.rules.specs.declared.breach.Breach.{Breach}
use Rattle.rules.specs.Order.{blocks, when}
use Rattle.rules.specs.Told.{argument, of_one}
use Rattle.rules.specs.Rows.{ArgRow, own, own_conflict, own_bit, later, items, whole, arg_of, arg_rows, item_rows}
use Rattle.rules.specs.Report.{arg_report}
use Rattle.rules.specs.declared.breach.Entry.{Entry}
use Rattle.sinks.specs.Offers.{tests_told}
use Rattle.survey.specs.Parts.{rows_told, conflict_rows, value_rows, bit_rows, name_rows, twin_rows, before_rows, after_rows, references, list_told}

-- a test and its rule are those of the row
abbrev pub Agrees : Form → Arg → Bool × Rule → ArgRow → Type 0
Agrees f a t (own r c) = (t.0 ≡ c a) × (t.1 ≡ r)
Agrees f a t (own_conflict r c) = ⊥
Agrees f a t (own_bit r c) = ⊥
Agrees f a t (later r c) = ⊥
Agrees f a t (items rs) = ⊥
Agrees f a t (whole r c) = (t.0 ≡ c f a) × (t.1 ≡ r)

abbrev pub Agree : Form → Arg → List (Bool × Rule) → List ArgRow → Type 0
Agree f a [] [] = Unit {0}
Agree f a [] (r ∷ rs) = ⊥
Agree f a (t ∷ ts) [] = ⊥
Agree f a (t ∷ ts) (r ∷ rs) = Agrees f a t r × Agree f a ts rs

one_told : (f : Form) (p : ℕ) (a : Arg) (t : Bool × Rule) (r : ArgRow) → Agrees f a t r → when t.0 (of_one t.1 (argument p)) ≡ arg_report f p a r
one_told f p a t (own r c) e = rw (e.0, e.1)
one_told f p a t (own_conflict r c) e = absurd e
one_told f p a t (own_bit r c) e = absurd e
one_told f p a t (later r c) e = absurd e
one_told f p a t (items rs) e = absurd e
one_told f p a t (whole r c) e = rw (e.0, e.1)

agree_from : (f : Form) (p : ℕ) (a : Arg) (n : ℕ) (ts : List (Bool × Rule)) (rs : List ArgRow) → Agree f a ts rs
    → blocks (λ _ t. when t.0 (of_one t.1 (argument p))) n ts ≡ blocks (λ _ r. arg_report f p a r) n rs
unfolding blocks
agree_from f p a n [] [] e = refl
agree_from f p a n [] (r ∷ rs) e = absurd e
agree_from f p a n (t ∷ ts) [] e = absurd e
agree_from f p a n (t ∷ ts) (r ∷ rs) e = rw (one_told f p a t r e.0, agree_from f p a (suc n) ts rs e.1)

-- what the tests tell is what the rows tell
pub agree : (f : Form) (p : ℕ) (a : Arg) (ts : List (Bool × Rule)) (rs : List ArgRow) → Agree f a ts rs
    → blocks (λ _ t. when t.0 (of_one t.1 (argument p))) 0 ts ≡ blocks (λ _ r. arg_report f p a r) 0 rs
agree f p a ts rs e = agree_from f p a 0 ts rs e

-- so a sink that was offered the one was offered the other
pub told_by : {S : Type 0} (after : S → List Breach → S → Type 0) (s t : S) (o : Entry) (f : Form) (p : ℕ) (ts : List (Bool × Rule)) (rs : List ArgRow)
    → o ≡ argument p → after s (tests_told o ts) t → Agree f (arg_of f p) ts rs → after s (rows_told f p rs) t
told_by after s t o f p ts rs e a as_said = subst (λ l. after s l t) (ap (λ w. tests_told w ts) e ∙ agree f p (arg_of f p) ts rs as_said) a

-- places of which the same is told
pub blocks_same : {X : Type 0} (h k : ℕ → X → List Breach) (n : ℕ) (xs : List X) → ((p : ℕ) (x : X) → h p x ≡ k p x) → blocks h n xs ≡ blocks k n xs
unfolding blocks
blocks_same h k n [] same = refl
blocks_same h k n (x ∷ xs) same = rw (same n x, blocks_same h k (suc n) xs same)

-- the tests of each argument, and the rows of a section
pub each_by : {S : Type 0} (after : S → List Breach → S → Type 0) (s t : S) (f : Form) (tests : Arg → List (Bool × Rule)) (rows : List ArgRow) → ((a : Arg) → Agree f a (tests a) rows)
    → after s (blocks (λ p a. tests_told (argument p) (tests a)) 0 f.args) t → after s (blocks (λ p a. blocks (λ _ r. arg_report f p a r) 0 rows) 0 f.args) t
each_by after s t f tests rows as_said a = subst (λ l. after s l t) (blocks_same (λ p a. tests_told (argument p) (tests a)) (λ p a. blocks (λ _ r. arg_report f p a r) 0 rows) 0 f.args (λ p a. agree f p a (tests a) rows (as_said a))) a

-- rows do not look at their own places
pub blocks_from : {X : Type 0} (h : X → List Breach) (m n : ℕ) (xs : List X) → blocks (λ _ x. h x) m xs ≡ blocks (λ _ x. h x) n xs
unfolding blocks
blocks_from h m n [] = refl
blocks_from h m n (x ∷ xs) = ap (λ l. h x ++ l) (blocks_from h (suc m) (suc n) xs)

-- rows in two parts
pub blocks_join : {X : Type 0} (h : X → List Breach) (xs ys : List X) → blocks (λ _ x. h x) 0 (xs ++ ys) ≡ blocks (λ _ x. h x) 0 xs ++ blocks (λ _ x. h x) 0 ys
unfolding blocks
blocks_join h [] ys = refl
blocks_join h (x ∷ xs) ys =
    ap (λ l. h x ++ l) (blocks_from h 1 0 (xs ++ ys) ∙ blocks_join h xs ys ∙ ap (λ l. l ++ blocks (λ _ x. h x) 0 ys) (blocks_from h 0 1 xs))
    ∙ sym (append_assoc (h x) (blocks (λ _ x. h x) 1 xs) (blocks (λ _ x. h x) 0 ys))

-- a row alone
pub row_alone : {S : Type 0} (after : S → List Breach → S → Type 0) (s t : S) (f : Form) (p : ℕ) (r : ArgRow) → after s (arg_report f p (arg_of f p) r) t → after s (rows_told f p (r ∷ [])) t
unfolding blocks
row_alone after s t f p r a = subst (λ l. after s l t) (sym (append-nil (arg_report f p (arg_of f p) r))) a

-- the rows before those on items, part by part
pub before_told : (f : Form) (p : ℕ) → rows_told f p before_rows ≡ rows_told f p conflict_rows ++ (rows_told f p value_rows ++ (rows_told f p bit_rows ++ (rows_told f p name_rows ++ rows_told f p twin_rows)))
before_told f p =
    let h = λ (r : ArgRow). arg_report f p (arg_of f p) r in
    blocks_join h conflict_rows (value_rows ++ (bit_rows ++ (name_rows ++ twin_rows)))
    ∙ ap (λ l. rows_told f p conflict_rows ++ l) (blocks_join h value_rows (bit_rows ++ (name_rows ++ twin_rows))
    ∙ ap (λ l. rows_told f p value_rows ++ l) (blocks_join h bit_rows (name_rows ++ twin_rows)
    ∙ ap (λ l. rows_told f p bit_rows ++ l) (blocks_join h name_rows twin_rows)))

-- all rows on an argument: before the items, list by list, and after them
pub all_told : (f : Form) (p : ℕ) → rows_told f p arg_rows ≡ rows_told f p before_rows ++ (blocks (λ _ l. list_told f p l) 0 references ++ rows_told f p after_rows)
unfolding blocks
all_told f p = blocks_join (λ (r : ArgRow). arg_report f p (arg_of f p) r) before_rows (items item_rows ∷ after_rows)
