-- What a TableForm means.
use Rattle.std.specs.Prelude.{◌≡◌, true, false, cond, not, Ok, Err, Result}
use Rattle.form.specs.Model.{Form, empty_form}
use Rattle.form.specs.declared.refusal.Refusal.{Refusal}
use Rattle.form.specs.declared.refusal.Refusal.TheVariants.{BeyondLimits}
use Rattle.table.specs.Tables.{form_of, within}
use Rattle.table.specs.declared.table_form.TableForm.{TableForm}
use Rattle.table.specs.declared.table_form.Tables.{Tables}

-- the form of the tables
abbrev pub tables_meant : Tables → Form
tables_meant t = form_of t.settings.bits t.args.now t.groups.now t.subcommands.now

-- the form of the tables that it holds
abbrev pub form_meant : TableForm → Form
form_meant t = tables_meant t.tables

-- t was made of the form f: it means f where f is within the limits; else f is refused, and t means the empty form
pub record Made (t : TableForm) (f : Form) : Type 0 where
  pub means : form_meant t ≡ cond (within f) f empty_form
  pub tells : t.refused ≡ not (within f)

-- the tables of the form f were taken: t means f, which is within the limits; else f is refused, which is beyond them
abbrev pub Taken : Result TableForm Refusal → Form → Type 0
Taken (Ok t) f = (form_meant t ≡ f) × (t.refused ≡ false) × (within f ≡ true)
Taken (Err e) f = (e ≡ BeyondLimits) × (within f ≡ false)
