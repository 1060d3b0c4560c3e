use Rattle.std.proofs.Common.{map, vec_items, ap, ◌∙◌}
use Rattle.form.specs.declared.lists.EntryKind.TheVariants.{Argument}
use Rattle.calls.specs.Marked.{MarkedForm}
use Rattle.calls.specs.Calls.{argument, kept, replaced}
use Rattle.calls.specs.Given.{arg_given}
use Rattle.book_tables.specs.Held.{held, arg_held}
use Rattle.book_tables.specs.Tables.{tables_marked}
use Rattle.book_tables.proofs.Alters.{table_replaced, mark_there, alter_taken}
use Rattle.book_tables.proofs.tables.Tables.alter_arg.Goals as goal

pub returns : goal.returns
unfolding tables_marked
returns c =
    let s = c.args.self.now in
    let m = tables_marked s in
    let es = ap (map (held arg_held)) c.replace.ensures ∙ table_replaced arg_held c.args.mark c.in_ok-of.of (vec_items s.args.list) in
    let l = alter_taken m _ c.args.mark (argument (arg_given c.args.details)) (kept (arg_given c.args.details)) _ (mark_there m c.args.mark Argument c.in_ok-seek.ensures) c.in_ok-of.ensures
    (λ is. ap {B = MarkedForm} (λ es. record { settings = m.settings; args = es; groups = m.groups; subcommands = m.subcommands; rows = m.rows; next = m.next }) (es ∙ ap (λ x. replaced c.args.mark x m.args) is)) in
    record { answer = l.0; after = l.1 }
