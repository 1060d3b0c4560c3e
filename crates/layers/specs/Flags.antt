-- The standard flags: an argument for help and one for the version, added after a form's own arguments.
use Rattle.std.specs.Prelude.{ℕ, ◌+◌, Bool, true, false, not, ◌&&◌, ◌||◌, List, [], ◌∷◌, ◌++◌, length, take, Some, None, codes, nat_lt}
use Rattle.form.specs.Model.{Name, Arg, Form}
use Rattle.form.specs.Settings.{app_set}
use Rattle.form.specs.declared.action.ArgAction.{ArgAction}
use Rattle.form.specs.declared.action.ArgAction.TheVariants.{Help, Version}
use Rattle.form.specs.declared.app_settings.AppSettings.TheVariants.{DisableHelpFlag, DisableVersionFlag, HasVersion}

-- a flag: its id is its long name too, it takes no values, and it is otherwise blank
abbrev pub flag : Name → ℕ → ArgAction → Arg
flag name letter action = record {
  id = name;
  long = Some name;
  letter = Some letter;
  index = None;
  settings = 0;
  action = action;
  terminated = false;
  range = Some (record { least = 0; most = 0 });
  requires = [];
  r_ifs = [];
  r_ifs_all = [];
  r_unless = [];
  r_unless_all = [];
  conflicts = [];
  overrides = [];
  long_aliases = [];
  letter_aliases = [];
}

-- h and help: code 104 is h
abbrev pub help : Arg
help = flag (codes "help") 104 Help

-- V and version: code 86 is V
abbrev pub version : Arg
version = flag (codes "version") 86 Version

-- help is wanted unless the form disables it
abbrev pub wants_help : Form → Bool
wants_help f = not (app_set f.settings DisableHelpFlag)

-- version is wanted where the form has a version, unless it disables the flag
abbrev pub wants_version : Form → Bool
wants_version f = not (app_set f.settings DisableVersionFlag) && app_set f.settings HasVersion

-- an argument where the test says so
abbrev pub where_wanted : Bool → Arg → List Arg
where_wanted true a = a ∷ []
where_wanted false a = []

-- the flags that the form wants, help first
abbrev pub wanted : Form → List Arg
wanted f = where_wanted (wants_help f) help ++ where_wanted (wants_version f) version

-- the form with its standard flags: what would pass 80 arguments is dropped, and the form is then cut,
-- as it is where it was cut before
abbrev pub with_flags : Form → Form
with_flags f = record {
  settings = f.settings;
  cut = f.cut || nat_lt 80 (length f.args + length (wanted f));
  args = take 80 (f.args ++ wanted f);
  groups = f.groups;
  subcommands = f.subcommands;
}
