-- Examples of books: names of 32 and 33 bytes, and a table that is full until an entry is struck.
use Rattle.std.specs.Prelude.{◌≡◌, ℕ, ◌<◌, ◌≤◌, true, length, Ok, Err}
use Rattle.form.specs.Model.{Name}
use Rattle.form.specs.Shown.{ArgRecord}
use Rattle.form.specs.Refusals.{refusal_number}
use Rattle.form.specs.declared.refusal.Refusal.TheVariants.{NameLength, TableFull}
use Rattle.calls.specs.Marked.{MarkedForm}
use Rattle.calls.specs.Calls.{argument, group, good_names, good_letters, bears, enter_answer, struck}

pub record BookExamples : Type 0 where
  -- with 64 arguments another is refused, with 104
  pub full : (m : MarkedForm) (r : ArgRecord) → length m.args ≡ 64 → good_names (argument r) ≡ true → good_letters (argument r) ≡ true → enter_answer m (argument r) ≡ Err TableFull
  pub number : refusal_number TableFull ≡ 104
  -- but not after a strike of one of them, while a mark is left: it is entered, and gets that mark
  pub room : (m : MarkedForm) (r : ArgRecord) (k : ℕ) → length m.args ≡ 64 → bears k m.args ≡ true → m.next ≤ 60000 → good_names (argument r) ≡ true → good_letters (argument r) ≡ true → enter_answer (struck m k) (argument r) ≡ Ok m.next
  -- a name of 32 bytes is entered; 33 bytes are refused, with 102
  pub just : (m : MarkedForm) (x : Name) → length x ≡ 32 → length m.groups < 16 → m.next ≤ 60000 → enter_answer m (group x) ≡ Ok m.next
  pub long : (m : MarkedForm) (x : Name) → length x ≡ 33 → enter_answer m (group x) ≡ Err NameLength
