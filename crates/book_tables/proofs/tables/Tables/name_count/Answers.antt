use Rattle.std.proofs.Common.{length, sym, ap, ◌∙◌}
use Rattle.std.proofs.lemmas.List.{length-map}
use Rattle.form.specs.declared.lists.ItemSort.TheVariants as sort
use Rattle.book_tables.specs.Rows.{named, items_at}
use Rattle.book_tables.specs.Tables.{tables_marked}
use Rattle.book_tables.proofs.Places.{names_listed}
use Rattle.book_tables.proofs.tables.Tables.name_count.Goals as goal

pub returns : goal.returns
returns c =
    let m = tables_marked c.args.self.now in
    c.item_count.ensures ∙ sym (ap length (names_listed m c.args.list c.args.place) ∙ length-map (items_at m sort.Name c.args.list c.args.place) named)
