-- What an order form is. Every book, sheet and table of definitions means one of these; all contracts speak of it.
use Rattle.std.specs.Prelude.{ℕ, Bool, false, List, [], None, Option}
use Rattle.form.specs.declared.action.ArgAction.{ArgAction}
use Rattle.form.specs.declared.action.ArgAction.TheVariants.{Set}

-- a name is a list of bytes
abbrev pub Name : Type 0
Name = List ℕ

-- how many values an argument takes: at least `least`, at most `most`
pub record Range : Type 0 where
  pub least : ℕ
  pub most : ℕ

-- an argument: its record, and the items of lists 1 to 9
pub record Arg : Type 0 where
  pub id : Name
  pub long : Option Name
  pub letter : Option ℕ
  pub index : Option ℕ
  pub settings : ℕ
  pub action : ArgAction
  pub terminated : Bool
  pub range : Option Range
  pub requires : List Name
  pub r_ifs : List Name
  pub r_ifs_all : List Name
  pub r_unless : List Name
  pub r_unless_all : List Name
  pub conflicts : List Name
  pub overrides : List Name
  pub long_aliases : List Name
  pub letter_aliases : List ℕ

-- a group: its id, and the items of lists 10 to 12
pub record Group : Type 0 where
  pub id : Name
  pub members : List Name
  pub requires : List Name
  pub conflicts : List Name

-- a subcommand: its record, and the items of lists 13 to 15
pub record Subcommand : Type 0 where
  pub name : Name
  pub long : Option Name
  pub letter : Option ℕ
  pub aliases : List Name
  pub long_aliases : List Name
  pub letter_aliases : List ℕ

-- a form: its settings, whether something was cut off it, and its three tables
pub record Form : Type 0 where
  pub settings : ℕ
  pub cut : Bool
  pub args : List Arg
  pub groups : List Group
  pub subcommands : List Subcommand

-- what stands past the end of a table: empty id, action Set, otherwise none, no or unset
abbrev pub blank_arg : Arg
blank_arg = record {
  id = [];
  long = None;
  letter = None;
  index = None;
  settings = 0;
  action = Set;
  terminated = false;
  range = None;
  requires = [];
  r_ifs = [];
  r_ifs_all = [];
  r_unless = [];
  r_unless_all = [];
  conflicts = [];
  overrides = [];
  long_aliases = [];
  letter_aliases = [];
}

abbrev pub blank_group : Group
blank_group = record { id = []; members = []; requires = []; conflicts = [] }

abbrev pub blank_subcommand : Subcommand
blank_subcommand = record { name = []; long = None; letter = None; aliases = []; long_aliases = []; letter_aliases = [] }

-- the form with nothing in it
abbrev pub empty_form : Form
empty_form = record { settings = 0; cut = false; args = []; groups = []; subcommands = [] }
