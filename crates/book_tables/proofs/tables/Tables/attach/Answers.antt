use Rattle.std.proofs.Common.{rules, ◌≡◌, cond, leb, [], ◌∷◌, ◌++◌, length, Ok, Err, vec_items, sym, ap, ◌∙◌}
use Rattle.std.proofs.lemmas.List.{length-map}
use Rattle.std.proofs.lemmas.Result.{err_from_is_err_and}
use Rattle.form.specs.Lists.{list_numbered}
use Rattle.form.specs.declared.refusal.Refusal.TheVariants.{RowsTaken}
use Rattle.calls.specs.Given.{item_given}
use Rattle.book_tables.specs.Held.{row_held, item_held}
use Rattle.book_tables.specs.Tables.{tables_marked}
use Rattle.book_tables.proofs.Attaches.{Attachable, list_found, attach_bad, attach_ended, rows_pushed}
use Rattle.book_tables.proofs.tables.Tables.attach.Goals as goal

pub returns-in_err-item : goal.returns-in_err-item
returns-in_err-item c =
    let p = err_from_is_err_and c.from_residual.result c.from_residual.ensures.1 in
    let l = attach_bad (tables_marked c.args.self.now) c.args.mark c.args.list _ _ _ c.if-not-is_marked.ensures (list_found (list_numbered c.args.list) _ _ c.in-Ok.ensures) c.if-not-takes_item.ensures c.in_err-item.ensures in
    rw (p.1, p.2) (record { answer = l.0; after = l.1 })

pub returns : goal.returns
unfolding tables_marked
returns c =
    let s = c.args.self.now in
    let m = tables_marked s in
    let a : Attachable m c.args.mark c.args.list c.in-Ok.list (item_given c.args.item) (item_held c.in_ok-item.item) =
    record { has = c.if-not-is_marked.ensures; list = list_found (list_numbered c.args.list) _ _ c.in-Ok.ensures; fits = c.if-not-takes_item.ensures; taken = c.in_ok-item.ensures } in
    let long = length-map (vec_items s.rows.list) row_held in
    let told : c.map_err.result ≡ cond (leb 512 (length (vec_items s.rows.list))) (Err RowsTaken) (Ok tt) = search rules in
    let rows = rows_pushed (leb 512 (length (vec_items s.rows.list))) (vec_items s.rows.list) _ _ c.push.ensures.items in
    let l = attach_ended m _ _ _ _ _ _ a (rows ∙ ap (λ n. cond (leb 512 n) m.rows (m.rows ++ (record { owner = c.args.mark; list = c.in-Ok.list; item = item_held c.in_ok-item.item } ∷ []))) (sym long)) in
    record { answer = told ∙ ap (λ n. cond (leb 512 n) (Err RowsTaken) (Ok tt)) (sym long) ∙ l.0; after = l.1 }
