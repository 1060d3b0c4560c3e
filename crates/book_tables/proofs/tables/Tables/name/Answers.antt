use Rattle.std.proofs.Common.{[], get_or, sym, ap, ◌∙◌}
use Rattle.form.specs.declared.lists.ItemSort.TheVariants as sort
use Rattle.book_tables.specs.Rows.{named, items_at}
use Rattle.book_tables.specs.Tables.{tables_marked}
use Rattle.book_tables.proofs.Places.{found_at, none_found, names_listed}
use Rattle.book_tables.proofs.tables.Tables.name.Goals as goal

pub returns-in-Some : goal.returns-in-Some
returns-in-Some c =
    let m = tables_marked c.args.self.now in
    c.name.ensures ∙ found_at named [] (items_at m sort.Name c.args.list c.args.place) c.args.item _ c.in-Some.ensures ∙ ap (λ xs. get_or xs c.args.item []) (sym (names_listed m c.args.list c.args.place))

pub returns-in-None : goal.returns-in-None
returns-in-None c =
    let m = tables_marked c.args.self.now in
    none_found named [] (items_at m sort.Name c.args.list c.args.place) c.args.item c.in-None.ensures ∙ ap (λ xs. get_or xs c.args.item []) (sym (names_listed m c.args.list c.args.place))
