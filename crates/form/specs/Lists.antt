-- The fifteen lists of items: their numbers, whose they are, and what they hold.
use Rattle.std.specs.Prelude.{ℕ, cond, List, [], Some, None, Option, ◌==◌, slice_index_or}
use Rattle.form.specs.Model.{Name, Arg, Form, blank_arg, blank_group, blank_subcommand}
use Rattle.form.specs.declared.lists.EntryKind.{EntryKind}
use Rattle.form.specs.declared.lists.EntryKind.TheVariants.{Argument, Group, Subcommand}
use Rattle.form.specs.declared.lists.ItemSort.{ItemSort}
use Rattle.form.specs.declared.lists.ItemSort.TheVariants as sort
use Rattle.form.specs.declared.lists.ItemList.{ItemList}
use Rattle.form.specs.declared.lists.ItemList.TheVariants.{Requires, RIfs, RIfsAll, RUnless, RUnlessAll, Conflicts, Overrides, LongAliases, LetterAliases, Members, GroupRequires, GroupConflicts, SubcommandAliases, LongFlagAliases, LetterFlagAliases}

-- the number of a list
abbrev pub list_number : ItemList → ℕ
list_number Requires = 1
list_number RIfs = 2
list_number RIfsAll = 3
list_number RUnless = 4
list_number RUnlessAll = 5
list_number Conflicts = 6
list_number Overrides = 7
list_number LongAliases = 8
list_number LetterAliases = 9
list_number Members = 10
list_number GroupRequires = 11
list_number GroupConflicts = 12
list_number SubcommandAliases = 13
list_number LongFlagAliases = 14
list_number LetterFlagAliases = 15

-- the list that has the number, where there is one
abbrev pub list_numbered : ℕ → Option ItemList
list_numbered n =
    cond (n == 1) (Some Requires)
    (cond (n == 2) (Some RIfs)
    (cond (n == 3) (Some RIfsAll)
    (cond (n == 4) (Some RUnless)
    (cond (n == 5) (Some RUnlessAll)
    (cond (n == 6) (Some Conflicts)
    (cond (n == 7) (Some Overrides)
    (cond (n == 8) (Some LongAliases)
    (cond (n == 9) (Some LetterAliases)
    (cond (n == 10) (Some Members)
    (cond (n == 11) (Some GroupRequires)
    (cond (n == 12) (Some GroupConflicts)
    (cond (n == 13) (Some SubcommandAliases)
    (cond (n == 14) (Some LongFlagAliases)
    (cond (n == 15) (Some LetterFlagAliases) None))))))))))))))

-- the kind of entry that has the list
abbrev pub list_owner : ItemList → EntryKind
list_owner Requires = Argument
list_owner RIfs = Argument
list_owner RIfsAll = Argument
list_owner RUnless = Argument
list_owner RUnlessAll = Argument
list_owner Conflicts = Argument
list_owner Overrides = Argument
list_owner LongAliases = Argument
list_owner LetterAliases = Argument
list_owner Members = Group
list_owner GroupRequires = Group
list_owner GroupConflicts = Group
list_owner SubcommandAliases = Subcommand
list_owner LongFlagAliases = Subcommand
list_owner LetterFlagAliases = Subcommand

-- what the list holds
abbrev pub list_sort : ItemList → ItemSort
list_sort Requires = sort.Name
list_sort RIfs = sort.Name
list_sort RIfsAll = sort.Name
list_sort RUnless = sort.Name
list_sort RUnlessAll = sort.Name
list_sort Conflicts = sort.Name
list_sort Overrides = sort.Name
list_sort LongAliases = sort.Name
list_sort LetterAliases = sort.Letter
list_sort Members = sort.Name
list_sort GroupRequires = sort.Name
list_sort GroupConflicts = sort.Name
list_sort SubcommandAliases = sort.Name
list_sort LongFlagAliases = sort.Name
list_sort LetterFlagAliases = sort.Letter

-- the names in a list of an argument; none in a list that is not its or holds letters
abbrev pub arg_names : Arg → ItemList → List Name
arg_names a Requires = a.requires
arg_names a RIfs = a.r_ifs
arg_names a RIfsAll = a.r_ifs_all
arg_names a RUnless = a.r_unless
arg_names a RUnlessAll = a.r_unless_all
arg_names a Conflicts = a.conflicts
arg_names a Overrides = a.overrides
arg_names a LongAliases = a.long_aliases
arg_names a LetterAliases = []
arg_names a Members = []
arg_names a GroupRequires = []
arg_names a GroupConflicts = []
arg_names a SubcommandAliases = []
arg_names a LongFlagAliases = []
arg_names a LetterFlagAliases = []

-- the names in the list of the entry at the place; none where the list holds letters
abbrev pub names_at : Form → ItemList → ℕ → List Name
names_at f Requires p = (slice_index_or f.args p blank_arg).requires
names_at f RIfs p = (slice_index_or f.args p blank_arg).r_ifs
names_at f RIfsAll p = (slice_index_or f.args p blank_arg).r_ifs_all
names_at f RUnless p = (slice_index_or f.args p blank_arg).r_unless
names_at f RUnlessAll p = (slice_index_or f.args p blank_arg).r_unless_all
names_at f Conflicts p = (slice_index_or f.args p blank_arg).conflicts
names_at f Overrides p = (slice_index_or f.args p blank_arg).overrides
names_at f LongAliases p = (slice_index_or f.args p blank_arg).long_aliases
names_at f LetterAliases p = []
names_at f Members p = (slice_index_or f.groups p blank_group).members
names_at f GroupRequires p = (slice_index_or f.groups p blank_group).requires
names_at f GroupConflicts p = (slice_index_or f.groups p blank_group).conflicts
names_at f SubcommandAliases p = (slice_index_or f.subcommands p blank_subcommand).aliases
names_at f LongFlagAliases p = (slice_index_or f.subcommands p blank_subcommand).long_aliases
names_at f LetterFlagAliases p = []

-- the letters in the list of the entry at the place; none where the list holds names
abbrev pub letters_at : Form → ItemList → ℕ → List ℕ
letters_at f Requires p = []
letters_at f RIfs p = []
letters_at f RIfsAll p = []
letters_at f RUnless p = []
letters_at f RUnlessAll p = []
letters_at f Conflicts p = []
letters_at f Overrides p = []
letters_at f LongAliases p = []
letters_at f LetterAliases p = (slice_index_or f.args p blank_arg).letter_aliases
letters_at f Members p = []
letters_at f GroupRequires p = []
letters_at f GroupConflicts p = []
letters_at f SubcommandAliases p = []
letters_at f LongFlagAliases p = []
letters_at f LetterFlagAliases p = (slice_index_or f.subcommands p blank_subcommand).letter_aliases
