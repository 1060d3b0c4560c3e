-- What the records and items of the code stand for. Names are held as N and ranges as R; `name` and `range` say what these stand for.
use Rattle.std.specs.Prelude.{ℕ, List}
use Rattle.std.specs.Borrow.{Bor}
use Rattle.std.specs.Option.{option_map}
use Rattle.form.specs.Model as model
use Rattle.form.specs.Bounds.{bounds}
use Rattle.form.specs.Shown.{ArgRecord, SubcommandRecord}
use Rattle.form.specs.declared.range.ValueRange.{ValueRange}
use Rattle.calls.specs.Marked.{ItemOf, name_item, letter_item}
use Rattle.calls.specs.Calls.{RecordOf, argument, group, subcommand}
use Rattle.calls.specs.declared.records.ArgRecord.{ArgRecord as ArgIn}
use Rattle.calls.specs.declared.records.SubcommandRecord.{SubcommandRecord as SubcommandIn}
use Rattle.calls.specs.declared.records.Record.{Record}
use Rattle.calls.specs.declared.records.Record.TheVariants.{Argument, Group, Subcommand}
use Rattle.calls.specs.declared.records.Item.{Item}
use Rattle.calls.specs.declared.records.Item.TheVariants.{Name, Letter}

abbrev pub arg_told : {N R : Type 0} → (N → model.Name) → (R → model.Range) → ArgIn N R → ArgRecord
arg_told name range r = record { id = name r.id; long = option_map name r.long; letter = r.letter; index = r.index; settings = r.settings; action = r.action; terminated = r.terminated; range = option_map range r.range }

abbrev pub subcommand_told : {N : Type 0} → (N → model.Name) → SubcommandIn N → SubcommandRecord
subcommand_told name r = record { name = name r.name; long = option_map name r.long; letter = r.letter }

abbrev pub record_told : {N R : Type 0} → (N → model.Name) → (R → model.Range) → Record N R → RecordOf
record_told name range (Argument r) = argument (arg_told name range r)
record_told name range (Group x) = group (name x)
record_told name range (Subcommand r) = subcommand (subcommand_told name r)

abbrev pub item_told : {N : Type 0} → (N → model.Name) → Item N → ItemOf
item_told name (Name x) = name_item (name x)
item_told name (Letter c) = letter_item c

-- where a name is a slice of bytes and a range is made
abbrev pub arg_given : ArgIn (Bor (List ℕ)) ValueRange → ArgRecord
arg_given r = arg_told (λ x. x.now) bounds r

abbrev pub subcommand_given : SubcommandIn (Bor (List ℕ)) → SubcommandRecord
subcommand_given r = subcommand_told (λ x. x.now) r

abbrev pub given : Record (Bor (List ℕ)) ValueRange → RecordOf
given r = record_told (λ x. x.now) bounds r

abbrev pub item_given : Item (Bor (List ℕ)) → ItemOf
item_given x = item_told (λ x. x.now) x
