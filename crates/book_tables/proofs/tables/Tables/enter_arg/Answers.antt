use Rattle.std.proofs.Common.{leb, map, vec_items, sym, ap, ◌∙◌}
use Rattle.std.proofs.lemmas.List.{length-map}
use Rattle.std.proofs.lemmas.Result.{err_from_is_err_and}
use Rattle.calls.specs.Calls.{argument, kept, full}
use Rattle.calls.specs.Given.{arg_given}
use Rattle.book_tables.specs.Held.{held, arg_held}
use Rattle.book_tables.specs.Tables.{tables_marked}
use Rattle.book_tables.specs.Steps.{mark_answer}
use Rattle.book_tables.proofs.Gates.{stopped_at, entered_refused, enter_answered}
use Rattle.book_tables.proofs.Steps.{table_entered, arg_entered}
use Rattle.book_tables.proofs.tables.Tables.enter_arg.Goals as goal

pub returns-in_err-of : goal.returns-in_err-of
returns-in_err-of c =
    let m = tables_marked c.args.self.now in
    let r = argument (arg_given c.args.details) in
    let p = err_from_is_err_and c.from_residual.result c.from_residual.ensures.1 in
    let e = stopped_at r (kept (arg_given c.args.details)) (mark_answer (full m r) m.next) _ c.in_err-of.ensures in
    rw (p.1, p.2) (record { answer = e; after = entered_refused m r _ e })

pub returns : goal.returns
unfolding tables_marked
returns c =
    let s = c.args.self.now in
    let m = tables_marked s in
    let long = ap (λ n. mark_answer (leb 64 n) s.next) (sym (length-map (vec_items s.args.list) (held arg_held))) in
    let p = enter_answered m (argument (arg_given c.args.details)) (kept (arg_given c.args.details)) (arg_held c.in_ok-of.of) c.enter.result c.in_ok-of.ensures (c.enter.ensures.answer ∙ long) in
    let es = ap (map (held arg_held)) c.enter.ensures.items ∙ table_entered arg_held c.enter.result s.next c.in_ok-of.of (vec_items s.args.list) in
    record { answer = p.1; after = arg_entered m _ _ c.enter.result (arg_given c.args.details) _ p es c.enter.ensures.next }
