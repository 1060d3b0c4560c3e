use Rattle.std.proofs.Common.{length, vec_items, sym, ap, ◌∙◌}
use Rattle.book_tables.specs.Rows.{items_of, under}
use Rattle.book_tables.specs.Tables.{tables_marked}
use Rattle.book_tables.proofs.Places.{items_counted}
use Rattle.book_tables.proofs.tables.Tables.item_count.Goals as goal

pub returns-in-Some : goal.returns-in-Some
unfolding tables_marked
returns-in-Some c =
    let rs = c.args.self.now.rows.list in
    let k = c.in-Some.mark in
    rw c.as_slice.ensures at c.count_items.ensures ∙ sym (items_counted k c.args.list (vec_items rs))
    ∙ ap (λ o. length (under (λ k. items_of k c.args.list (tables_marked c.args.self.now).rows) o)) c.in-Some.ensures
