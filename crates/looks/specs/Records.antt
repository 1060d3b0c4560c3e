-- Tests on an argument that look at its record alone.
use Rattle.std.specs.Prelude.{◌≡◌, ℕ, cond, List, [], Some, None, Option}
use Rattle.form.specs.Model.{Arg, Form}
use Rattle.form.specs.Shown.{ArgRecord, arg_record, shown}
use Rattle.std.specs.Borrow.{Bor}
use Rattle.form.specs.declared.views.ArgOf.{ArgOf}
use Rattle.rules.specs.Rows.{arg_of, positional_last}

-- the argument of a record, with empty lists
abbrev pub bare : ArgRecord → Arg
bare r = record {
  id = r.id;
  long = r.long;
  letter = r.letter;
  index = r.index;
  settings = r.settings;
  action = r.action;
  terminated = r.terminated;
  range = r.range;
  requires = [];
  r_ifs = [];
  r_ifs_all = [];
  r_unless = [];
  r_unless_all = [];
  conflicts = [];
  overrides = [];
  long_aliases = [];
  letter_aliases = [];
}

-- the argument that a view shows, but for its lists
abbrev pub seen : ArgOf (Bor (List ℕ)) → Arg
seen v = bare (shown v)

-- the view shows the argument at the place
abbrev pub Shows : Form → ℕ → ArgOf (Bor (List ℕ)) → Type 0
Shows f p v = shown v ≡ arg_record (arg_of f p)

-- a mark, if the argument is positional and Last
abbrev pub last_mark : Arg → Option (Unit {0})
last_mark a = cond (positional_last a) (Some tt) None
