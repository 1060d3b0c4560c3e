-- The steps of the calls, once what is given has been taken.
use Rattle.std.specs.Prelude.{ℕ, ◌+◌, Bool, cond, List, [], ◌∷◌, ◌++◌, is_ok, Ok, Err, Result, ◌==◌, nat_lt}
use Rattle.form.specs.declared.refusal.Refusal.{Refusal}
use Rattle.form.specs.declared.refusal.Refusal.TheVariants.{TableFull, MarksSpent, NoSuchMark}
use Rattle.form.specs.declared.lists.EntryKind.{EntryKind}
use Rattle.calls.specs.Marked.{MarkedForm}
use Rattle.calls.specs.Calls.{marked_kind}
use Rattle.book_tables.specs.declared.held.Held.{Held}

-- the mark of one more entry of a table that is full or not
abbrev pub mark_answer : Bool → ℕ → Result ℕ Refusal
mark_answer full next = cond full (Err TableFull) (cond (nat_lt 60000 next) (Err MarksSpent) (Ok next))

-- whether an entry of the kind bears the mark
abbrev pub mark_sought : MarkedForm → ℕ → EntryKind → Result Unit Refusal
mark_sought m k kind = cond (marked_kind m k kind) (Ok tt) (Err NoSuchMark)

-- one more entry at a table's end, under the next mark, where that is given
abbrev pub entered_at : {X : Type 0} → Result ℕ Refusal → ℕ → X → List (Held X) → List (Held X)
entered_at answer next x es = cond (is_ok answer) (es ++ (record { mark = next; of = x } ∷ [])) es

abbrev pub next_after : Result ℕ Refusal → ℕ → ℕ
next_after answer next = cond (is_ok answer) (next + 1) next

-- the entry with another record, where it bears the mark
abbrev pub with_under : {X : Type 0} → ℕ → X → Held X → Held X
with_under k x e = cond (e.mark == k) (record { mark = e.mark; of = x }) e
