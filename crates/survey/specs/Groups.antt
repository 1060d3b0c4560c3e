-- The rows of a report on a group, as the survey offers them.
use Rattle.std.specs.Prelude.{ℕ, List, slice_index_or}
use Rattle.form.specs.Lists.{names_at}
use Rattle.form.specs.Model.{Name, Group, Form, blank_group}
use Rattle.form.specs.declared.lists.ItemList.{ItemList}
use Rattle.rules.specs.declared.rule.Rule.{Rule}
use Rattle.rules.specs.declared.breach.Breach.{Breach}
use Rattle.rules.specs.Order.{blocks, when}
use Rattle.rules.specs.Told.{group, of_item}
use Rattle.rules.specs.Rows.{GroupRow, missing}
use Rattle.rules.specs.Report.{group_report}

-- the group at a place
abbrev pub group_of : Form → ℕ → Group
group_of f p = slice_index_or f.groups p blank_group

-- what the rows tell of the group at the place
abbrev pub group_told : Form → ℕ → List GroupRow → List Breach
group_told f p rows = blocks (λ _ r. group_report f p (group_of f p) r) 0 rows

-- the items of a list of the group that are not among the known ids
abbrev pub missing_told : Form → ℕ → ItemList → List Name → Rule → List Breach
missing_told f p l ids r = blocks (λ k x. when (missing ids x) (of_item r (group p) l k)) 0 (names_at f l p)
