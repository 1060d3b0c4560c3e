-- The words for kinds of entries and for lists.
use Rattle.std.specs.Prelude.{ℕ, List, codes}
use Rattle.form.specs.declared.lists.EntryKind.{EntryKind}
use Rattle.form.specs.declared.lists.EntryKind.TheVariants.{Argument, Group, Subcommand}
use Rattle.form.specs.declared.lists.ItemList.{ItemList}
use Rattle.form.specs.declared.lists.ItemList.TheVariants.{Requires, RIfs, RIfsAll, RUnless, RUnlessAll, Conflicts, Overrides, LongAliases, LetterAliases, Members, GroupRequires, GroupConflicts, SubcommandAliases, LongFlagAliases, LetterFlagAliases}

-- a, g and s
abbrev pub kind_letter : EntryKind → ℕ
kind_letter Argument = 97
kind_letter Group = 103
kind_letter Subcommand = 115

abbrev pub kind_name : EntryKind → List ℕ
kind_name Argument = codes "argument"
kind_name Group = codes "group"
kind_name Subcommand = codes "subcommand"

abbrev pub list_name : ItemList → List ℕ
list_name Requires = codes "requires"
list_name RIfs = codes "required if"
list_name RIfsAll = codes "required if all"
list_name RUnless = codes "required unless"
list_name RUnlessAll = codes "required unless all"
list_name Conflicts = codes "conflicts"
list_name Overrides = codes "overrides"
list_name LongAliases = codes "aliases"
list_name LetterAliases = codes "letter aliases"
list_name Members = codes "members"
list_name GroupRequires = codes "requires"
list_name GroupConflicts = codes "conflicts"
list_name SubcommandAliases = codes "aliases"
list_name LongFlagAliases = codes "long flag aliases"
list_name LetterFlagAliases = codes "letter flag aliases"
