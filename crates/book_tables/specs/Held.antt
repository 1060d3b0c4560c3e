-- What the entries and rows of a book's tables mean.
use Rattle.std.specs.Prelude.{ℕ, List, map}
use Rattle.form.specs.NameBytes.{name_bytes}
use Rattle.form.specs.Shown.{ArgRecord, SubcommandRecord, told_of, told_of_subcommand}
use Rattle.form.specs.declared.name.Name as held_name
use Rattle.form.specs.declared.views.ArgOf.{ArgOf}
use Rattle.form.specs.declared.views.SubcommandOf.{SubcommandOf}
use Rattle.calls.specs.Marked.{Marked, ItemOf, name_item, letter_item, Row}
use Rattle.book_tables.specs.declared.held.Held.{Held}
use Rattle.book_tables.specs.declared.held.HeldItem.{HeldItem}
use Rattle.book_tables.specs.declared.held.HeldItem.TheVariants.{Name, Letter}
use Rattle.book_tables.specs.declared.held.ItemRow.{ItemRow}

-- the record that is held of an argument
abbrev pub arg_held : ArgOf held_name.Name → ArgRecord
arg_held a = told_of name_bytes a

abbrev pub subcommand_held : SubcommandOf held_name.Name → SubcommandRecord
subcommand_held s = told_of_subcommand name_bytes s

-- what is held, under its mark
abbrev pub held : {X Y : Type 0} → (X → Y) → Held X → Marked Y
held f e = record { mark = e.mark; of = f e.of }

abbrev pub item_held : HeldItem → ItemOf
item_held (Name x) = name_item (name_bytes x)
item_held (Letter c) = letter_item c

abbrev pub row_held : ItemRow → Row
row_held r = record { owner = r.owner; list = r.list; item = item_held r.item }

-- the marks of a table
abbrev pub marks : {X : Type 0} → List (Held X) → List ℕ
marks es = map (λ e. e.mark) es
