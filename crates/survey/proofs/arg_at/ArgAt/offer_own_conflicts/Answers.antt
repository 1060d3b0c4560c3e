use Rattle.std.proofs.Common.{[], get_or, ap, ◌∙◌, arith}
use Rattle.std.specs.Str.{bytes_eq}
use Rattle.rules.specs.Rows.{arg_of}
use Rattle.sinks.proofs.Walks.{walk_step, walk_end, walk_stop}
use Rattle.survey.proofs.arg_at.ArgAt.offer_own_conflicts.Goals as goal

pub loop-item-preserved : goal.loop-item-preserved
loop-item-preserved g c =
    let x = get_or (arg_of (g.F.FormSource.form c.args.self.now.form.now) c.args.self.now.place).conflicts c.loop-item.item [] in
    let is = c.eq-itself.ensures ∙ ap (λ n. bytes_eq n c.args.self.now.arg.id.now) c.name.ensures ∙ ap (λ r. bytes_eq x r.id) c.args.self.now.shows in
    walk_step [] (omega arith) c.loop-item.invariant (rw (is, c.of_item-breach.ensures, c.entry.ensures) at c.offer_if.ensures.took)

pub returns-in_err-offer_if-clause-took : goal.returns-in_err-offer_if-clause-took
returns-in_err-offer_if-clause-took g c =
    let x = get_or (arg_of (g.F.FormSource.form c.args.self.now.form.now) c.args.self.now.place).conflicts c.loop-item.item [] in
    let is = c.eq-itself.ensures ∙ ap (λ n. bytes_eq n c.args.self.now.arg.id.now) c.name.ensures ∙ ap (λ r. bytes_eq x r.id) c.args.self.now.shows in
    walk_stop [] (omega arith) c.loop-item.invariant (rw (is, c.of_item-breach.ensures, c.entry.ensures) at c.offer_if.ensures.took) c.in_err-offer_if.ensures.goes

pub returns-clause-took : goal.returns-clause-took
returns-clause-took g c = walk_end (omega arith) c.loop-item.invariant
