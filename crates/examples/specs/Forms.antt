-- Three slips that are easily made, each with the breaches that follow and a near miss.
use Rattle.std.specs.Prelude.{◌≡◌, ℕ, false, List, [], ◌∷◌, Some, None, codes, Option}
use Rattle.form.specs.Model.{Name, Arg, Group, Subcommand, Form}
use Rattle.form.specs.declared.action.ArgAction.TheVariants.{Set}
use Rattle.form.specs.declared.lists.ItemList.TheVariants.{Conflicts}
use Rattle.rules.specs.declared.rule.Rule.TheVariants.{MissingReference, PositionsWithGaps}
use Rattle.rules.specs.Report.{breaches}
use Rattle.rules.specs.Told.{argument, of_form, of_item}

-- an argument of one value, by its id, long name, index, conflicts and long aliases
abbrev pub arg : Name → Option Name → Option ℕ → List Name → List Name → Arg
arg id long index conflicts aliases = record {
  id = id;
  long = long;
  letter = None;
  index = index;
  settings = 0;
  action = Set;
  terminated = false;
  range = Some (record { least = 1; most = 1 });
  requires = [];
  r_ifs = [];
  r_ifs_all = [];
  r_unless = [];
  r_unless_all = [];
  conflicts = conflicts;
  overrides = [];
  long_aliases = aliases;
  letter_aliases = [];
}

abbrev pub group : Name → Group
group id = record { id = id; members = []; requires = []; conflicts = [] }

abbrev pub subcommand : Name → Subcommand
subcommand name = record { name = name; long = None; letter = None; aliases = []; long_aliases = []; letter_aliases = [] }

abbrev pub form : List Arg → List Group → List Subcommand → Form
form args groups subcommands = record { settings = 0; cut = false; args = args; groups = groups; subcommands = subcommands }

-- commit conflicts with unpaid
abbrev pub commit : Arg
commit = arg (codes "commit") (Some (codes "commit")) None (codes "unpaid" ∷ []) []

-- two positional arguments
abbrev pub positions : ℕ → ℕ → Form
positions i j = form (arg (codes "from") None (Some i) [] [] ∷ arg (codes "to") None (Some j) [] [] ∷ []) [] []

pub record FormExamples : Type 0 where
  -- a conflict that names only a subcommand breaks rule 25; one that names a group does not
  pub subcommand_only : breaches (form (commit ∷ []) [] (subcommand (codes "unpaid") ∷ [])) ≡ of_item MissingReference (argument 0) Conflicts 0 ∷ []
  pub group_met : breaches (form (commit ∷ []) (group (codes "unpaid") ∷ []) []) ≡ []
  -- a long alias equal to its own long name breaks nothing
  pub own_alias : breaches (form (arg (codes "out") (Some (codes "output")) None [] (codes "output" ∷ []) ∷ []) [] []) ≡ []
  -- indices 1 and 3 break rule 40; 1 and 2 do not
  pub gap : breaches (positions 1 3) ≡ of_form PositionsWithGaps ∷ []
  pub no_gap : breaches (positions 1 2) ≡ []
