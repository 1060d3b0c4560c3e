use Rattle.std.proofs.Common.{take, sym, refl, ap, ◌∙◌, arith}
use Rattle.std.proofs.lemmas.List.{take_all}
use Rattle.form.specs.Limits.{summed}
use Rattle.table.specs.Capped.{capped}
use Rattle.table.proofs.Caps.{capped_sum, summed_more}
use Rattle.table.proofs.listed.total_items.Goals as goal

pub loop-row-init : goal.loop-row-init
unfolding summed
loop-row-init g c = refl

pub loop-row-preserved : goal.loop-row-preserved
loop-row-preserved g c =
    let size = g.R.Listed.items in
    let rows = c.args.rows.now in
    capped_sum c.saturating_add-total.result c.loop-row.total c.item_count.result (summed size (take c.loop-row.row-index rows)) (size c.row-item.result) c.loop-row.invariant c.item_count.ensures c.saturating_add-total.ensures
    ∙ ap capped (sym (summed_more size rows c.loop-row.row-index c.row-item.result (omega arith) c.row-item.is))

pub returns : goal.returns
returns g c =
    let size = g.R.Listed.items in
    c.loop-row.invariant ∙ ap (λ xs. capped (summed size xs)) (take_all c.loop-row.row-index c.args.rows.now (omega arith))
