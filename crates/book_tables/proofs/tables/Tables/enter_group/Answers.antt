use Rattle.std.proofs.Common.{leb, map, vec_items, sym, ap, ◌∙◌}
use Rattle.std.proofs.lemmas.List.{length-map}
use Rattle.form.specs.NameBytes.{name_bytes}
use Rattle.calls.specs.Calls.{group}
use Rattle.book_tables.specs.Held.{held}
use Rattle.book_tables.specs.Tables.{tables_marked}
use Rattle.book_tables.specs.Steps.{mark_answer}
use Rattle.book_tables.proofs.Gates.{enter_answered, group_gate}
use Rattle.book_tables.proofs.Steps.{table_entered, group_entered}
use Rattle.book_tables.proofs.tables.Tables.enter_group.Goals as goal

pub returns : goal.returns
unfolding tables_marked
returns c =
    let s = c.args.self.now in
    let m = tables_marked s in
    let long = ap (λ n. mark_answer (leb 16 n) s.next) (sym (length-map (vec_items s.groups.list) (held name_bytes))) in
    let p = enter_answered m (group c.args.id.now) c.args.id.now (name_bytes c.in_ok-of.of) c.enter.result (c.in_ok-of.ensures ∙ group_gate c.args.id.now) (c.enter.ensures.answer ∙ long) in
    let es = ap (map (held name_bytes)) c.enter.ensures.items ∙ table_entered name_bytes c.enter.result s.next c.in_ok-of.of (vec_items s.groups.list) in
    record { answer = p.1; after = group_entered m _ _ c.enter.result c.args.id.now _ p es c.enter.ensures.next }
