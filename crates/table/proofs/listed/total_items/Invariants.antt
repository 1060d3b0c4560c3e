use Rattle.std.proofs.Common.{◌≡◌, take}
use Rattle.form.specs.Limits.{summed}
use Rattle.table.specs.Capped.{capped}
use Rattle.table.proofs.listed.total_items.Given as goal

-- the items of the rows so far
abbrev pub invariant-loop-row : goal.invariant-loop-row
invariant-loop-row g l = l.total ≡ capped (summed g.R.Listed.items (take l.row-index l.rows))
