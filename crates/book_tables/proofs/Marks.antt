-- Marks of a table: another record under one, and tables that keep ascending.
use Rattle.std.proofs.Common.{◌≡◌, ℕ, ◌+◌, ◌<◌, ◌≤◌, Bool, true, false, cond, not, ◌||◌, eqb, leb, List, [], ◌∷◌, ◌++◌, map, length, get_or, take, drop, set, filter, sym, refl, ap, ◌∙◌, arith, eq-eqb, ne_eqb}
use Rattle.std.specs.List.{list_any}
use Rattle.std.proofs.lemmas.List.Edits.{map_over_more}
use Rattle.std.proofs.lemmas.Bool.Decides.{nat_tests}
use Rattle.calls.specs.Calls.{bears}
use Rattle.book_tables.specs.declared.held.Held.{Held}
use Rattle.book_tables.specs.Held.{held, marks}
use Rattle.book_tables.specs.Marks.{climbing}
use Rattle.book_tables.specs.Steps.{with_under}

-- what a table bears, as a search of what is held
pub bears_held : {X Y : Type 0} (f : X → Y) (k : ℕ) (es : List (Held X)) → list_any (λ e. eqb e.mark k) es ≡ bears k (map (held f) es)
bears_held f k [] = refl
bears_held f k (e ∷ es) = ap (λ t. eqb e.mark k || t) (bears_held f k es)

-- another record under a mark leaves the marks as they were
pub marks_replaced : {X : Type 0} (k : ℕ) (x : X) (es : List (Held X)) → marks (map (with_under k x) es) ≡ marks es
marks_replaced k x [] = refl
marks_replaced k x (e ∷ es) =
    let here : (with_under k x e).mark ≡ e.mark = grind (arith, nat_tests) in
    rw (here, marks_replaced k x es)

pub climbing_push : (low : ℕ) (ms : List ℕ) (top : ℕ) → climbing low ms top ≡ true → climbing low (ms ++ top ∷ []) (top + 1) ≡ true
unfolding climbing
climbing_push low [] top h = grind (arith, nat_tests)
climbing_push low (m ∷ ms) top h =
    let b : climbing (m + 1) ms top ≡ true = grind (arith, nat_tests) in
    let r = climbing_push (m + 1) ms top b in
    grind (arith, nat_tests)

-- one more entry is gone over, whether it bears the mark or not
pub replace_here : {X : Type 0} (k : ℕ) (x : X) (xs ys : List (Held X)) (i : ℕ) (d : Held X) → i < length xs → d ≡ get_or ys i d → (get_or ys i d).mark ≡ k
    → ys ≡ map (with_under k x) (take i xs) ++ drop i xs → set ys i (record { mark = (get_or ys i d).mark; of = x }) ≡ map (with_under k x) (take (i + 1) xs) ++ drop (i + 1) xs
replace_here {X} k x xs ys i d lt read same inv =
    let e = get_or ys i d in
    let is : with_under k x e ≡ record { mark = e.mark; of = x } = rw (eq-eqb _ _ same) in
    ap (set ys i) (sym is ∙ ap (with_under k x) (sym read)) ∙ map_over_more (with_under k x) xs ys i d lt inv read

pub replace_other : {X : Type 0} (k : ℕ) (x : X) (xs ys : List (Held X)) (i : ℕ) (d : Held X) → i < length xs → d ≡ get_or ys i d → ((get_or ys i d).mark ≡ k → ⊥)
    → ys ≡ map (with_under k x) (take i xs) ++ drop i xs → set ys i (get_or ys i d) ≡ map (with_under k x) (take (i + 1) xs) ++ drop (i + 1) xs
replace_other {X} k x xs ys i d lt read other inv =
    let e = get_or ys i d in
    let is : with_under k x e ≡ e = rw (ne_eqb _ _ other) in
    ap (set ys i) (sym is ∙ ap (with_under k x) (sym read)) ∙ map_over_more (with_under k x) xs ys i d lt inv read

climbing_lower : (low high : ℕ) (ms : List ℕ) (top : ℕ) → low ≤ high → climbing high ms top ≡ true → climbing low ms top ≡ true
unfolding climbing
climbing_lower low high [] top le h = grind (arith, nat_tests)
climbing_lower low high (m ∷ ms) top le h = grind (arith, nat_tests)

-- what a strike leaves still ascends
pub climbing_kept : {X : Type 0} (low k : ℕ) (es : List (Held X)) (top : ℕ) → climbing low (marks es) top ≡ true → climbing low (marks (filter (λ e. not (eqb e.mark k)) es)) top ≡ true
unfolding climbing
climbing_kept low k [] top h = h
climbing_kept {X} low k (e ∷ es) top h =
    let a : leb low e.mark ≡ true = grind (arith, nat_tests) in
    let b : climbing (e.mark + 1) (marks es) top ≡ true = grind (arith, nat_tests) in
    let r = climbing_kept (e.mark + 1) k es top b in
    let rest : List (Held X) = filter (λ e. not (eqb e.mark k)) es in
    let P : Bool → Type 0 = λ t. climbing low (marks (cond (not t) (e ∷ rest) rest)) top ≡ true in
    let le : low ≤ e.mark + 1 = grind (arith, nat_tests) in
    elim (eqb e.mark k) as P [ true ↦ climbing_lower low (e.mark + 1) _ top le r | false ↦ rw a r ]
