-- One more entry in a table.
use Rattle.std.proofs.Common.{◌≡◌, ℕ, ◌+◌, ◌≤◌, Bool, true, false, cond, ltb, List, [], ◌∷◌, ◌++◌, map, is_ok, Ok, Err, Result, refl, ap, ◌∙◌, arith, ltb-false}
use Rattle.std.proofs.lemmas.List.{map_push}
use Rattle.std.proofs.lemmas.Bool.Decides.{nat_tests}
use Rattle.form.specs.Model.{Name}
use Rattle.form.specs.Shown.{ArgRecord, SubcommandRecord}
use Rattle.form.specs.declared.refusal.Refusal.{Refusal}
use Rattle.form.specs.declared.refusal.Refusal.TheVariants.{TableFull, MarksSpent}
use Rattle.calls.specs.Marked.{Marked, MarkedForm}
use Rattle.calls.specs.Calls.{argument, group, subcommand, kept, enter_answer, added, entered}
use Rattle.book_tables.specs.declared.held.Held.{Held}
use Rattle.book_tables.specs.Held.{held, marks}
use Rattle.book_tables.specs.Marks.{climbing}
use Rattle.book_tables.specs.Steps.{mark_answer, entered_at, next_after}
use Rattle.book_tables.proofs.Marks.{climbing_push}

-- no mark is given above 60,000
pub next_few : (full : Bool) (n : ℕ) (a : Result ℕ Refusal) → a ≡ mark_answer full n → n ≤ 60001 → next_after a n ≤ 60001
next_few full n a is le = rw is (go full (ltb 60000 n) refl)
  where
    go : (f t : Bool) → ltb 60000 n ≡ t → next_after (cond f (Err TableFull) (cond t (Err MarksSpent) (Ok n))) n ≤ 60001
    go true t s = le
    go false true s = le
    go false false s = let h = ltb-false _ _ s in omega arith

climbing_higher : (low : ℕ) (ms : List ℕ) (top : ℕ) → climbing low ms top ≡ true → climbing low ms (top + 1) ≡ true
unfolding climbing
climbing_higher low [] top h = grind (arith, nat_tests)
climbing_higher low (m ∷ ms) top h =
    let b : climbing (m + 1) ms top ≡ true = grind (arith, nat_tests) in
    let r = climbing_higher (m + 1) ms top b in
    grind (arith, nat_tests)

-- marks that are below the next one are below the one after it
pub climbing_on : (a : Result ℕ Refusal) (ms : List ℕ) (n : ℕ) → climbing 1 ms n ≡ true → climbing 1 ms (next_after a n) ≡ true
climbing_on a ms n up = elim (is_ok a) as (λ t. climbing 1 ms (cond t (n + 1) n) ≡ true) [ true ↦ climbing_higher 1 ms n up | false ↦ up ]

-- and so is the one that is given
pub climbing_entered : {X : Type 0} (a : Result ℕ Refusal) (n : ℕ) (x : X) (es : List (Held X)) → climbing 1 (marks es) n ≡ true
    → climbing 1 (marks (entered_at a n x es)) (next_after a n) ≡ true
climbing_entered {X} a n x es up =
    let e : Held X = record { mark = n; of = x } in
    elim (is_ok a) as (λ t. climbing 1 (marks (cond t (es ++ e ∷ []) es)) (cond t (n + 1) n) ≡ true) [ true ↦ rw (map_push (λ (h : Held X). h.mark) es e) (climbing_push 1 (marks es) n up) | false ↦ up ]

-- an entry at the end of what a table means, where its mark is given
abbrev more : {Y : Type 0} → Bool → ℕ → Y → List (Marked Y) → List (Marked Y)
more t n y es = cond t (es ++ (record { mark = n; of = y } ∷ [])) es

pub table_entered : {X Y : Type 0} (f : X → Y) (a : Result ℕ Refusal) (n : ℕ) (x : X) (es : List (Held X)) → map (held f) (entered_at a n x es) ≡ more (is_ok a) n (f x) (map (held f) es)
table_entered {X} f a n x es =
    let e : Held X = record { mark = n; of = x } in
    elim (is_ok a) as (λ t. map (held f) (cond t (es ++ e ∷ []) es) ≡ more t n (f x) (map (held f) es)) [ true ↦ map_push (held f) es e | false ↦ refl ]

-- the marked form after a call of enter, by the table that it goes to
pub arg_entered : (m : MarkedForm) (es : List (Marked ArgRecord)) (n : ℕ) (a : Result ℕ Refusal) (r y : ArgRecord) → (y ≡ kept r) × (a ≡ enter_answer m (argument r))
    → es ≡ more (is_ok a) m.next y m.args → n ≡ next_after a m.next
    → record { settings = m.settings; args = es; groups = m.groups; subcommands = m.subcommands; rows = m.rows; next = n } ≡ entered m (argument r)
arg_entered m es n a r y p e f = rw (e, f, p.0) (go (is_ok a) ∙ ap (λ b. cond (is_ok b) (added m (argument r)) m) p.1)
  where
    go : (t : Bool) → record { settings = m.settings; args = more t m.next (kept r) m.args; groups = m.groups; subcommands = m.subcommands; rows = m.rows; next = cond t (m.next + 1) m.next } ≡ cond t (added m (argument r)) m
    go true = refl
    go false = refl

pub group_entered : (m : MarkedForm) (es : List (Marked Name)) (n : ℕ) (a : Result ℕ Refusal) (x y : Name) → (y ≡ x) × (a ≡ enter_answer m (group x))
    → es ≡ more (is_ok a) m.next y m.groups → n ≡ next_after a m.next
    → record { settings = m.settings; args = m.args; groups = es; subcommands = m.subcommands; rows = m.rows; next = n } ≡ entered m (group x)
group_entered m es n a x y p e f = rw (e, f, p.0) (go (is_ok a) ∙ ap (λ b. cond (is_ok b) (added m (group x)) m) p.1)
  where
    go : (t : Bool) → record { settings = m.settings; args = m.args; groups = more t m.next x m.groups; subcommands = m.subcommands; rows = m.rows; next = cond t (m.next + 1) m.next } ≡ cond t (added m (group x)) m
    go true = refl
    go false = refl

pub subcommand_entered : (m : MarkedForm) (es : List (Marked SubcommandRecord)) (n : ℕ) (a : Result ℕ Refusal) (r y : SubcommandRecord) → (y ≡ r) × (a ≡ enter_answer m (subcommand r))
    → es ≡ more (is_ok a) m.next y m.subcommands → n ≡ next_after a m.next
    → record { settings = m.settings; args = m.args; groups = m.groups; subcommands = es; rows = m.rows; next = n } ≡ entered m (subcommand r)
subcommand_entered m es n a r y p e f = rw (e, f, p.0) (go (is_ok a) ∙ ap (λ b. cond (is_ok b) (added m (subcommand r)) m) p.1)
  where
    go : (t : Bool) → record { settings = m.settings; args = m.args; groups = m.groups; subcommands = more t m.next r m.subcommands; rows = m.rows; next = cond t (m.next + 1) m.next } ≡ cond t (added m (subcommand r)) m
    go true = refl
    go false = refl
