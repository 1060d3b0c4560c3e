-- The calls of a book: what each answers, and the marked form after it. Conditions are tried in the order written, and a refused call changes nothing.
use Rattle.std.specs.Prelude.{ℕ, ◌+◌, Bool, true, false, cond, not, ◌&&◌, ◌||◌, List, [], ◌∷◌, ◌++◌, map, length, is_ok, Some, None, Ok, Err, filter, Option, Result, ◌==◌, nat_le, nat_lt}
use Rattle.form.specs.Model.{Name}
use Rattle.form.specs.Names.{name_of, scalar}
use Rattle.form.specs.Settings.{arg_kept, app_kept}
use Rattle.form.specs.Shown.{ArgRecord, SubcommandRecord}
use Rattle.form.specs.Lists.{list_numbered, list_owner, list_sort}
use Rattle.form.specs.declared.lists.EntryKind.{EntryKind}
use Rattle.form.specs.declared.lists.EntryKind.TheVariants.{Argument, Group, Subcommand}
use Rattle.form.specs.declared.lists.ItemSort.{ItemSort}
use Rattle.form.specs.declared.lists.ItemSort.TheVariants.{Name as NameSort, Letter as LetterSort}
use Rattle.form.specs.declared.lists.ItemList.{ItemList}
use Rattle.form.specs.declared.refusal.Refusal.{Refusal}
use Rattle.form.specs.declared.refusal.Refusal.TheVariants.{NameLength, NoScalar, TableFull, MarksSpent, NoSuchMark, WrongList, RowsTaken}
use Rattle.calls.specs.Marked.{Marked, ItemOf, name_item, letter_item, Row, MarkedForm}

-- a record as it is given to a call
pub data RecordOf : Type 0 where
  argument : ArgRecord → RecordOf
  group : Name → RecordOf
  subcommand : SubcommandRecord → RecordOf

-- Whether what is given is good: present names have 1 to 32 bytes, present letters are scalar values.
abbrev pub good_name : Name → Bool
good_name x = is_ok (name_of x)

abbrev pub good_if : {X : Type 0} → (X → Bool) → Option X → Bool
good_if good None = true
good_if good (Some x) = good x

abbrev pub good_names : RecordOf → Bool
good_names (argument r) = good_name r.id && good_if good_name r.long
good_names (group x) = good_name x
good_names (subcommand r) = good_name r.name && good_if good_name r.long

abbrev pub good_letters : RecordOf → Bool
good_letters (argument r) = good_if scalar r.letter
good_letters (group x) = true
good_letters (subcommand r) = good_if scalar r.letter

-- What is kept of a record: index 65,535 is none, and settings bits without a name are dropped.
abbrev pub kept_index : Option ℕ → Option ℕ
kept_index None = None
kept_index (Some n) = cond (n == 65535) None (Some n)

abbrev pub kept : ArgRecord → ArgRecord
kept r = record { id = r.id; long = r.long; letter = r.letter; index = kept_index r.index; settings = arg_kept r.settings; action = r.action; terminated = r.terminated; range = r.range }

-- Entering.
abbrev pub full : MarkedForm → RecordOf → Bool
full m (argument r) = nat_le 64 (length m.args)
full m (group x) = nat_le 16 (length m.groups)
full m (subcommand r) = nat_le 32 (length m.subcommands)

abbrev pub enter_answer : MarkedForm → RecordOf → Result ℕ Refusal
enter_answer m r =
    cond (not (good_names r)) (Err NameLength)
    (cond (not (good_letters r)) (Err NoScalar)
    (cond (full m r) (Err TableFull)
    (cond (nat_lt 60000 m.next) (Err MarksSpent)
    (Ok m.next))))

abbrev pub added : MarkedForm → RecordOf → MarkedForm
added m (argument r) = record { settings = m.settings; args = m.args ++ (record { mark = m.next; of = kept r } ∷ []); groups = m.groups; subcommands = m.subcommands; rows = m.rows; next = m.next + 1 }
added m (group x) = record { settings = m.settings; args = m.args; groups = m.groups ++ (record { mark = m.next; of = x } ∷ []); subcommands = m.subcommands; rows = m.rows; next = m.next + 1 }
added m (subcommand r) = record { settings = m.settings; args = m.args; groups = m.groups; subcommands = m.subcommands ++ (record { mark = m.next; of = r } ∷ []); rows = m.rows; next = m.next + 1 }

abbrev pub entered : MarkedForm → RecordOf → MarkedForm
entered m r = cond (is_ok (enter_answer m r)) (added m r) m

-- Which entries bear a mark.
abbrev pub bears : {X : Type 0} → ℕ → List (Marked X) → Bool
bears k [] = false
bears k (e ∷ es) = e.mark == k || bears k es

abbrev pub marked_kind : MarkedForm → ℕ → EntryKind → Bool
marked_kind m k Argument = bears k m.args
marked_kind m k Group = bears k m.groups
marked_kind m k Subcommand = bears k m.subcommands

abbrev pub marked : MarkedForm → ℕ → Bool
marked m k = bears k m.args || (bears k m.groups || bears k m.subcommands)

abbrev pub record_kind : RecordOf → EntryKind
record_kind (argument r) = Argument
record_kind (group x) = Group
record_kind (subcommand r) = Subcommand

-- Altering.
abbrev pub alter_answer : MarkedForm → ℕ → RecordOf → Result Unit Refusal
alter_answer m k r =
    cond (not (marked_kind m k (record_kind r))) (Err NoSuchMark)
    (cond (not (good_names r)) (Err NameLength)
    (cond (not (good_letters r)) (Err NoScalar)
    (Ok tt)))

-- the table with another record under the mark, in the same place
abbrev pub replaced : {X : Type 0} → ℕ → X → List (Marked X) → List (Marked X)
replaced k x es = map (λ e. cond (e.mark == k) (record { mark = e.mark; of = x }) e) es

abbrev pub changed : MarkedForm → ℕ → RecordOf → MarkedForm
changed m k (argument r) = record { settings = m.settings; args = replaced k (kept r) m.args; groups = m.groups; subcommands = m.subcommands; rows = m.rows; next = m.next }
changed m k (group x) = record { settings = m.settings; args = m.args; groups = replaced k x m.groups; subcommands = m.subcommands; rows = m.rows; next = m.next }
changed m k (subcommand r) = record { settings = m.settings; args = m.args; groups = m.groups; subcommands = replaced k r m.subcommands; rows = m.rows; next = m.next }

abbrev pub altered : MarkedForm → ℕ → RecordOf → MarkedForm
altered m k r = cond (is_ok (alter_answer m k r)) (changed m k r) m

-- Striking.
abbrev pub strike_answer : MarkedForm → ℕ → Result Unit Refusal
strike_answer m k = cond (marked m k) (Ok tt) (Err NoSuchMark)

-- what does not bear the mark
abbrev pub without : {X : Type 0} → ℕ → List (Marked X) → List (Marked X)
without k es = filter (λ e. not (e.mark == k)) es

abbrev pub rows_without : ℕ → List Row → List Row
rows_without k rs = filter (λ r. not (r.owner == k)) rs

abbrev pub removed : MarkedForm → ℕ → MarkedForm
removed m k = record { settings = m.settings; args = without k m.args; groups = without k m.groups; subcommands = without k m.subcommands; rows = rows_without k m.rows; next = m.next }

abbrev pub struck : MarkedForm → ℕ → MarkedForm
struck m k = cond (marked m k) (removed m k) m

-- Attaching.
abbrev pub sort_of : ItemOf → ItemSort
sort_of (name_item x) = NameSort
sort_of (letter_item c) = LetterSort

abbrev pub same_sort : ItemSort → ItemSort → Bool
same_sort NameSort NameSort = true
same_sort NameSort LetterSort = false
same_sort LetterSort NameSort = false
same_sort LetterSort LetterSort = true

abbrev pub good_item : ItemOf → Bool
good_item (name_item x) = good_name x
good_item (letter_item c) = scalar c

abbrev pub item_refusal : ItemOf → Refusal
item_refusal (name_item x) = NameLength
item_refusal (letter_item c) = NoScalar

-- the list is one of that entry, and holds that sort of item
abbrev pub takes : MarkedForm → ℕ → Option ItemList → ItemOf → Bool
takes m k None x = false
takes m k (Some l) x = marked_kind m k (list_owner l) && same_sort (list_sort l) (sort_of x)

abbrev pub attach_answer : MarkedForm → ℕ → ℕ → ItemOf → Result Unit Refusal
attach_answer m k l x =
    cond (not (marked m k)) (Err NoSuchMark)
    (cond (not (takes m k (list_numbered l) x)) (Err WrongList)
    (cond (not (good_item x)) (Err (item_refusal x))
    (cond (nat_le 512 (length m.rows)) (Err RowsTaken)
    (Ok tt))))

abbrev pub with_row : MarkedForm → ℕ → Option ItemList → ItemOf → MarkedForm
with_row m k None x = m
with_row m k (Some l) x = record { settings = m.settings; args = m.args; groups = m.groups; subcommands = m.subcommands; rows = m.rows ++ (record { owner = k; list = l; item = x } ∷ []); next = m.next }

abbrev pub attached : MarkedForm → ℕ → ℕ → ItemOf → MarkedForm
attached m k l x = cond (is_ok (attach_answer m k l x)) (with_row m k (list_numbered l) x) m

-- Setting.
abbrev pub with_settings : MarkedForm → ℕ → MarkedForm
with_settings m s = record { settings = app_kept s; args = m.args; groups = m.groups; subcommands = m.subcommands; rows = m.rows; next = m.next }
