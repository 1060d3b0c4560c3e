-- The names of subcommands, and what they tell of earlier ones.
use Rattle.std.specs.Prelude.{ℕ, suc, cond, List, [], take, Some, None, Option, slice_index_or}
use Rattle.form.specs.Model.{Name, Subcommand, Form, blank_subcommand}
use Rattle.rules.specs.declared.breach.Breach.{Breach}
use Rattle.rules.specs.Order.{blocks}
use Rattle.rules.specs.Rows.{earlier}
use Rattle.rules.specs.Report.{called, taken_report}

abbrev pub subcommand_of : Form → ℕ → Subcommand
subcommand_of f p = slice_index_or f.subcommands p blank_subcommand

-- name k of subcommand p
abbrev pub name_of : Form → ℕ → ℕ → Name
name_of f p k = slice_index_or (called (subcommand_of f p)) k []

-- name m of subcommand q, if it comes before name k of subcommand p
abbrev pub name_before : Form → ℕ → ℕ → ℕ → ℕ → Option Name
name_before f q m p k = cond (earlier q m p k) (Some (name_of f q m)) None

-- what name k of subcommand p tells of subcommand q
abbrev pub taken_told : Form → ℕ → ℕ → ℕ → List Breach
taken_told f p k q = taken_report p k (name_of f p k) q (subcommand_of f q)

-- what it tells of all earlier names
abbrev pub name_told : Form → ℕ → ℕ → List Breach
name_told f p k = blocks (λ q t. taken_report p k (name_of f p k) q t) 0 (take (suc p) f.subcommands)

-- what the names of subcommand p tell of earlier names
abbrev pub names_told : Form → ℕ → List Breach
names_told f p = blocks (λ k x. blocks (λ q t. taken_report p k x q t) 0 (take (suc p) f.subcommands)) 0 (called (subcommand_of f p))
