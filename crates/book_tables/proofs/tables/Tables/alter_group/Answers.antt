use Rattle.std.proofs.Common.{map, vec_items, ap, ◌∙◌}
use Rattle.form.specs.NameBytes.{name_bytes}
use Rattle.form.specs.declared.lists.EntryKind.TheVariants.{Group}
use Rattle.calls.specs.Marked.{MarkedForm}
use Rattle.calls.specs.Calls.{group, replaced}
use Rattle.book_tables.specs.Held.{held}
use Rattle.book_tables.specs.Tables.{tables_marked}
use Rattle.book_tables.proofs.Gates.{group_gate}
use Rattle.book_tables.proofs.Alters.{table_replaced, mark_there, alter_taken}
use Rattle.book_tables.proofs.tables.Tables.alter_group.Goals as goal

pub returns : goal.returns
unfolding tables_marked
returns c =
    let s = c.args.self.now in
    let m = tables_marked s in
    let es = ap (map (held name_bytes)) c.replace.ensures ∙ table_replaced name_bytes c.args.mark c.in_ok-of.of (vec_items s.groups.list) in
    let l = alter_taken m _ c.args.mark (group c.args.id.now) c.args.id.now _ (mark_there m c.args.mark Group c.in_ok-seek.ensures) (c.in_ok-of.ensures ∙ group_gate c.args.id.now)
    (λ is. ap {B = MarkedForm} (λ es. record { settings = m.settings; args = m.args; groups = es; subcommands = m.subcommands; rows = m.rows; next = m.next }) (es ∙ ap (λ x. replaced c.args.mark x m.groups) is)) in
    record { answer = l.0; after = l.1 }
