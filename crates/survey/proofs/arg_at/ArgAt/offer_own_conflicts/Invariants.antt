use Rattle.form.specs.declared.lists.ItemList.TheVariants.{Conflicts}
use Rattle.rules.specs.Order.{when}
use Rattle.rules.specs.Told.{argument, of_item}
use Rattle.rules.specs.Rows.{arg_of, names_itself}
use Rattle.rules.specs.declared.rule.Rule.TheVariants.{ConflictsWithItself}
use Rattle.sinks.proofs.Walks.{Walked}
use Rattle.survey.proofs.arg_at.ArgAt.offer_own_conflicts.Given as goal

abbrev pub invariant-loop-item : goal.invariant-loop-item
invariant-loop-item g l =
    let a = arg_of (g.F.FormSource.form l.self.form.now) l.self.place in
    Walked g.S.Sink (λ k x. when (names_itself a x) (of_item ConflictsWithItself (argument l.self.place) Conflicts k)) 0 a.conflicts l.initial.sink l.item l.sink
