-- How much a form can hold.
use Rattle.std.specs.Prelude.{ℕ, ◌+◌, ◌≤◌, List, [], ◌∷◌, length}
use Rattle.form.specs.Model.{Arg, Group, Subcommand, Form}

-- the number of items of an entry
abbrev pub arg_items : Arg → ℕ
arg_items a =
    length a.requires + (length a.r_ifs + (length a.r_ifs_all + (length a.r_unless + (length a.r_unless_all
    + (length a.conflicts + (length a.overrides + (length a.long_aliases + length a.letter_aliases)))))))

abbrev pub group_items : Group → ℕ
group_items g = length g.members + (length g.requires + length g.conflicts)

abbrev pub subcommand_items : Subcommand → ℕ
subcommand_items s = length s.aliases + (length s.long_aliases + length s.letter_aliases)

-- the sum over a table
unfoldable pub summed : {X : Type 0} → (X → ℕ) → List X → ℕ
summed size [] = 0
summed size (x ∷ xs) = size x + summed size xs

-- the number of items of a form
abbrev pub form_items : Form → ℕ
form_items f = summed arg_items f.args + (summed group_items f.groups + summed subcommand_items f.subcommands)

-- the form is within its limits
pub record Fits (f : Form) : Type 0 where
  pub args : length f.args ≤ 80
  pub groups : length f.groups ≤ 16
  pub subcommands : length f.subcommands ≤ 32
  pub items : form_items f ≤ 1024
