-- What a book means: marked records in three tables, and rows of items, each for the entry of its mark.
use Rattle.std.specs.Prelude.{ℕ, Bool, false, cond, ◌&&◌, List, [], ◌∷◌, map, ◌==◌}
use Rattle.form.specs.Model.{Name, Arg, Group, Subcommand, Form}
use Rattle.form.specs.Shown.{ArgRecord, SubcommandRecord}
use Rattle.form.specs.Lists.{list_number}
use Rattle.form.specs.declared.lists.ItemList.{ItemList}
use Rattle.form.specs.declared.lists.ItemList.TheVariants.{Requires, RIfs, RIfsAll, RUnless, RUnlessAll, Conflicts, Overrides, LongAliases, LetterAliases, Members, GroupRequires, GroupConflicts, SubcommandAliases, LongFlagAliases, LetterFlagAliases}

-- something under its mark
pub record Marked (X : Type 0) : Type 0 where
  pub mark : ℕ
  pub of : X

-- an item: a name or a letter
pub data ItemOf : Type 0 where
  name_item : Name → ItemOf
  letter_item : ℕ → ItemOf

-- an item attached to the entry of a mark, under a list
pub record Row : Type 0 where
  pub owner : ℕ
  pub list : ItemList
  pub item : ItemOf

-- the marked form of a book: `next` is the mark of the next entry
pub record MarkedForm : Type 0 where
  pub settings : ℕ
  pub args : List (Marked ArgRecord)
  pub groups : List (Marked Name)
  pub subcommands : List (Marked SubcommandRecord)
  pub rows : List Row
  pub next : ℕ

-- a new book
abbrev pub blank : MarkedForm
blank = record { settings = 0; args = []; groups = []; subcommands = []; rows = []; next = 1 }

-- the row is of this entry and this list
abbrev pub is_of : ℕ → ItemList → Row → Bool
is_of m l r = r.owner == m && list_number r.list == list_number l

-- the names, or the letters, of the rows that are of an entry and a list, in their order
abbrev pub with_name : ItemOf → List Name → List Name
with_name (name_item x) xs = x ∷ xs
with_name (letter_item c) xs = xs

abbrev pub with_letter : ItemOf → List ℕ → List ℕ
with_letter (name_item x) cs = cs
with_letter (letter_item c) cs = c ∷ cs

unfoldable pub names_in : ℕ → ItemList → List Row → List Name
names_in m l [] = []
names_in m l (r ∷ rs) = cond (is_of m l r) (with_name r.item (names_in m l rs)) (names_in m l rs)

unfoldable pub letters_in : ℕ → ItemList → List Row → List ℕ
letters_in m l [] = []
letters_in m l (r ∷ rs) = cond (is_of m l r) (with_letter r.item (letters_in m l rs)) (letters_in m l rs)

-- an entry with its lists
abbrev pub arg_entry : List Row → Marked ArgRecord → Arg
arg_entry rows e = record {
  id = e.of.id;
  long = e.of.long;
  letter = e.of.letter;
  index = e.of.index;
  settings = e.of.settings;
  action = e.of.action;
  terminated = e.of.terminated;
  range = e.of.range;
  requires = names_in e.mark Requires rows;
  r_ifs = names_in e.mark RIfs rows;
  r_ifs_all = names_in e.mark RIfsAll rows;
  r_unless = names_in e.mark RUnless rows;
  r_unless_all = names_in e.mark RUnlessAll rows;
  conflicts = names_in e.mark Conflicts rows;
  overrides = names_in e.mark Overrides rows;
  long_aliases = names_in e.mark LongAliases rows;
  letter_aliases = letters_in e.mark LetterAliases rows;
}

abbrev pub group_entry : List Row → Marked Name → Group
group_entry rows e = record {
  id = e.of;
  members = names_in e.mark Members rows;
  requires = names_in e.mark GroupRequires rows;
  conflicts = names_in e.mark GroupConflicts rows;
}

abbrev pub subcommand_entry : List Row → Marked SubcommandRecord → Subcommand
subcommand_entry rows e = record {
  name = e.of.name;
  long = e.of.long;
  letter = e.of.letter;
  aliases = names_in e.mark SubcommandAliases rows;
  long_aliases = names_in e.mark LongFlagAliases rows;
  letter_aliases = letters_in e.mark LetterFlagAliases rows;
}

-- the form that a marked form is: its entries with their lists, without the marks
abbrev pub form_of : MarkedForm → Form
form_of m = record {
  settings = m.settings;
  cut = false;
  args = map (arg_entry m.rows) m.args;
  groups = map (group_entry m.rows) m.groups;
  subcommands = map (subcommand_entry m.rows) m.subcommands;
}
