-- Altering and striking, over the lists that tables mean.
use Rattle.std.proofs.Common.{◌≡◌, ℕ, Bool, true, false, cond, eqb, List, [], ◌∷◌, map, is_ok, Ok, Err, filter, sym, refl, ap, ◌∙◌, arith}
use Rattle.form.specs.declared.lists.EntryKind.{EntryKind}
use Rattle.form.specs.declared.refusal.Refusal.TheVariants.{NoSuchMark}
use Rattle.calls.specs.Marked.{MarkedForm}
use Rattle.calls.specs.Calls.{RecordOf, alter_answer, changed, altered, replaced, marked, marked_kind, record_kind, strike_answer, removed, struck}
use Rattle.book_tables.specs.declared.held.Held.{Held}
use Rattle.book_tables.specs.Held.{held}
use Rattle.book_tables.specs.Steps.{mark_sought, with_under}
use Rattle.book_tables.specs.Taken.{all_good_or}
use Rattle.book_tables.proofs.Gates.{passed_by}

pub table_replaced : {X Y : Type 0} (f : X → Y) (k : ℕ) (x : X) (es : List (Held X)) → map (held f) (map (with_under k x) es) ≡ replaced k (f x) (map (held f) es)
table_replaced f k x [] = refl
table_replaced {X} {Y} f k x (e ∷ es) = here (eqb e.mark k) refl (table_replaced f k x es)
  where
    here : (t : Bool) → eqb e.mark k ≡ t → map (held f) (map (with_under k x) es) ≡ replaced k (f x) (map (held f) es)
        → held f (cond t (record { mark = e.mark; of = x }) e) ∷ map (held f) (map (with_under k x) es) ≡ cond t (record { mark = e.mark; of = f x }) (held f e) ∷ replaced k (f x) (map (held f) es)
    here true is rest = rw rest
    here false is rest = rw rest

-- an entry that is sought and found is there
pub mark_there : (m : MarkedForm) (k : ℕ) (kind : EntryKind) → Ok (tt {0}) ≡ mark_sought m k kind → marked_kind m k kind ≡ true
mark_there m k kind e = go (marked_kind m k kind) e
  where
    go : (t : Bool) → Ok (tt {0}) ≡ cond t (Ok (tt {0})) (Err NoSuchMark) → t ≡ true
    go true e = refl
    go false e = absurd (let z : ◌≡◌ {A = ℕ} 0 1 = cc in omega arith)

pub alter_taken : {X : Type 0} (m after : MarkedForm) (k : ℕ) (r : RecordOf) (x y : X) → marked_kind m k (record_kind r) ≡ true → Ok y ≡ all_good_or r x → (y ≡ x → after ≡ changed m k r)
    → (Ok tt ≡ alter_answer m k r) × (after ≡ altered m k r)
alter_taken m after k r x y has is to =
    let p = passed_by r x y (Ok tt) is in
    let a : Ok tt ≡ alter_answer m k r = rw has (sym p.1) in
    (a, to p.0 ∙ ap (λ b. cond (is_ok b) (changed m k r) m) a)

-- a filter goes through a map
pub map_kept_by : {X Y : Type 0} (f : X → Y) (p : Y → Bool) (xs : List X) → map f (filter (λ x. p (f x)) xs) ≡ filter p (map f xs)
map_kept_by f p [] = refl
map_kept_by {X} {Y} f p (x ∷ xs) =
    let r = map_kept_by f p xs in
    let P : Bool → Type 0 = λ t. map f (cond t (x ∷ filter (λ x. p (f x)) xs) (filter (λ x. p (f x)) xs)) ≡ cond t (f x ∷ filter p (map f xs)) (filter p (map f xs)) in
    elim (p (f x)) as P [ true ↦ ap (λ l. f x ∷ l) r | false ↦ r ]

-- what each table keeps is what the marked form keeps
pub strike_known : (m after : MarkedForm) (k : ℕ) → marked m k ≡ true → after ≡ removed m k → (Ok tt ≡ strike_answer m k) × (after ≡ struck m k)
strike_known m after k has to = rw has (refl, to)
