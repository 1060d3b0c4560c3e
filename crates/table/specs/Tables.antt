-- The form that tables of rows mean, and when it is within the limits of a form.
use Rattle.std.specs.Prelude.{ℕ, Bool, false, ◌&&◌, List, map, length, nat_le}
use Rattle.form.specs.Model.{Form}
use Rattle.form.specs.Limits.{form_items}
use Rattle.table.specs.Entries.{arg_of, group_of, subcommand_of}
use Rattle.table.specs.declared.rows.ArgRow.{ArgRow}
use Rattle.table.specs.declared.rows.GroupRow.{GroupRow}
use Rattle.table.specs.declared.rows.SubcommandRow.{SubcommandRow}

-- each row means an entry, and nothing is cut off
abbrev pub form_of : ℕ → List ArgRow → List GroupRow → List SubcommandRow → Form
form_of settings args groups subcommands = record {
  settings = settings;
  cut = false;
  args = map arg_of args;
  groups = map group_of groups;
  subcommands = map subcommand_of subcommands;
}

-- at most 80 arguments, 16 groups, 32 subcommands and 1024 items in all
abbrev pub within : Form → Bool
within f = nat_le (length f.args) 80 && (nat_le (length f.groups) 16 && (nat_le (length f.subcommands) 32 && nat_le (form_items f) 1024))
