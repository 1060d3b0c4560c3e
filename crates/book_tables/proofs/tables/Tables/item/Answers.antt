use Rattle.std.proofs.Common.{vec_items, sym, ap, ◌∙◌}
use Rattle.std.specs.List.{slice_get}
use Rattle.std.specs.Option.{option_map}
use Rattle.book_tables.specs.declared.held.ItemRow.{ItemRow}
use Rattle.book_tables.specs.Held.{item_held}
use Rattle.book_tables.specs.Rows.{items_of, under}
use Rattle.book_tables.specs.Tables.{tables_marked}
use Rattle.book_tables.proofs.Places.{item_shown}
use Rattle.book_tables.proofs.tables.Tables.item.Goals as goal

pub returns : goal.returns
unfolding tables_marked
returns c =
    let rs = c.args.self.now.rows.list in
    let at = rw c.as_slice.ensures at c.in_ok-row.ensures in
    ap (option_map (λ (r : ItemRow). item_held r.item)) at ∙ sym (item_shown c.in_ok-mark.mark c.args.list (vec_items rs) c.args.item)
    ∙ ap (λ o. slice_get (under (λ k. items_of k c.args.list (tables_marked c.args.self.now).rows) o) c.args.item) c.in_ok-mark.ensures

pub returns-in_err-row : goal.returns-in_err-row
unfolding tables_marked
returns-in_err-row c =
    let rs = c.args.self.now.rows.list in
    let at = rw c.as_slice.ensures at c.in_err-row.ensures in
    rw c.from_residual-in_err-row.ensures (ap (option_map (λ (r : ItemRow). item_held r.item)) at ∙ sym (item_shown c.in_ok-mark.mark c.args.list (vec_items rs) c.args.item)
    ∙ ap (λ o. slice_get (under (λ k. items_of k c.args.list (tables_marked c.args.self.now).rows) o) c.args.item) c.in_ok-mark.ensures)
