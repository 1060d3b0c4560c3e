-- The entries that the rows of a table mean.
use Rattle.std.specs.Prelude.{ℕ, false, List, [], map, None}
use Rattle.std.specs.Borrow.{Bor}
use Rattle.form.specs.Model.{Name, Arg, Group, Subcommand}
use Rattle.form.specs.Shown.{shown, shown_subcommand}
use Rattle.form.specs.declared.action.ArgAction.TheVariants.{Set}
use Rattle.form.specs.declared.lists.ItemList.{ItemList}
use Rattle.form.specs.declared.lists.ItemList.TheVariants.{Requires, RIfs, RIfsAll, RUnless, RUnlessAll, Conflicts, Overrides, LongAliases, LetterAliases, Members, GroupRequires, GroupConflicts, SubcommandAliases, LongFlagAliases, LetterFlagAliases}
use Rattle.table.specs.declared.rows.ArgRow.{ArgRow}
use Rattle.table.specs.declared.rows.GroupRow.{GroupRow}
use Rattle.table.specs.declared.rows.SubcommandRow.{SubcommandRow}

-- the names that a slice of slices holds
abbrev pub bytes : List (Bor (List ℕ)) → List Name
bytes xs = map (λ x. x.now) xs

-- an argument: the record that its view shows, and its lists
abbrev pub arg_of : ArgRow → Arg
arg_of r = record {
  id = (shown r.arg).id;
  long = (shown r.arg).long;
  letter = (shown r.arg).letter;
  index = (shown r.arg).index;
  settings = (shown r.arg).settings;
  action = (shown r.arg).action;
  terminated = (shown r.arg).terminated;
  range = (shown r.arg).range;
  requires = bytes r.requirements.now;
  r_ifs = bytes r.r_ifs.now;
  r_ifs_all = bytes r.r_ifs_all.now;
  r_unless = bytes r.r_unless.now;
  r_unless_all = bytes r.r_unless_all.now;
  conflicts = bytes r.conflicts.now;
  overrides = bytes r.overrides.now;
  long_aliases = bytes r.long_aliases.now;
  letter_aliases = r.letter_aliases.now;
}

abbrev pub group_of : GroupRow → Group
group_of r = record {
  id = r.group.id.now;
  members = bytes r.members.now;
  requires = bytes r.requirements.now;
  conflicts = bytes r.conflicts.now;
}

abbrev pub subcommand_of : SubcommandRow → Subcommand
subcommand_of r = record {
  name = (shown_subcommand r.subcommand).name;
  long = (shown_subcommand r.subcommand).long;
  letter = (shown_subcommand r.subcommand).letter;
  aliases = bytes r.aliases.now;
  long_aliases = bytes r.long_aliases.now;
  letter_aliases = r.letter_aliases.now;
}

-- entries that have a name and nothing else
abbrev pub only_arg : Name → Arg
only_arg id = record {
  id = id;
  long = None;
  letter = None;
  index = None;
  settings = 0;
  action = Set;
  terminated = false;
  range = None;
  requires = [];
  r_ifs = [];
  r_ifs_all = [];
  r_unless = [];
  r_unless_all = [];
  conflicts = [];
  overrides = [];
  long_aliases = [];
  letter_aliases = [];
}

abbrev pub only_group : Name → Group
only_group id = record { id = id; members = []; requires = []; conflicts = [] }

abbrev pub only_subcommand : Name → Subcommand
only_subcommand name = record { name = name; long = None; letter = None; aliases = []; long_aliases = []; letter_aliases = [] }

-- the letters in a list of an argument; none in a list that is not its or holds names
abbrev pub arg_letters : Arg → ItemList → List ℕ
arg_letters a Requires = []
arg_letters a RIfs = []
arg_letters a RIfsAll = []
arg_letters a RUnless = []
arg_letters a RUnlessAll = []
arg_letters a Conflicts = []
arg_letters a Overrides = []
arg_letters a LongAliases = []
arg_letters a LetterAliases = a.letter_aliases
arg_letters a Members = []
arg_letters a GroupRequires = []
arg_letters a GroupConflicts = []
arg_letters a SubcommandAliases = []
arg_letters a LongFlagAliases = []
arg_letters a LetterFlagAliases = []

-- the names in a list of a group; none in a list that is not its
abbrev pub group_names : Group → ItemList → List Name
group_names g Requires = []
group_names g RIfs = []
group_names g RIfsAll = []
group_names g RUnless = []
group_names g RUnlessAll = []
group_names g Conflicts = []
group_names g Overrides = []
group_names g LongAliases = []
group_names g LetterAliases = []
group_names g Members = g.members
group_names g GroupRequires = g.requires
group_names g GroupConflicts = g.conflicts
group_names g SubcommandAliases = []
group_names g LongFlagAliases = []
group_names g LetterFlagAliases = []

-- the names in a list of a subcommand; none in a list that is not its or holds letters
abbrev pub subcommand_names : Subcommand → ItemList → List Name
subcommand_names s Requires = []
subcommand_names s RIfs = []
subcommand_names s RIfsAll = []
subcommand_names s RUnless = []
subcommand_names s RUnlessAll = []
subcommand_names s Conflicts = []
subcommand_names s Overrides = []
subcommand_names s LongAliases = []
subcommand_names s LetterAliases = []
subcommand_names s Members = []
subcommand_names s GroupRequires = []
subcommand_names s GroupConflicts = []
subcommand_names s SubcommandAliases = s.aliases
subcommand_names s LongFlagAliases = s.long_aliases
subcommand_names s LetterFlagAliases = []

-- the letters in a list of a subcommand; none in a list that is not its or holds names
abbrev pub subcommand_letters : Subcommand → ItemList → List ℕ
subcommand_letters s Requires = []
subcommand_letters s RIfs = []
subcommand_letters s RIfsAll = []
subcommand_letters s RUnless = []
subcommand_letters s RUnlessAll = []
subcommand_letters s Conflicts = []
subcommand_letters s Overrides = []
subcommand_letters s LongAliases = []
subcommand_letters s LetterAliases = []
subcommand_letters s Members = []
subcommand_letters s GroupRequires = []
subcommand_letters s GroupConflicts = []
subcommand_letters s SubcommandAliases = []
subcommand_letters s LongFlagAliases = []
subcommand_letters s LetterFlagAliases = s.letter_aliases
