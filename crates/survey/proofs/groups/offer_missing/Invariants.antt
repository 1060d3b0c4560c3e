use Rattle.std.proofs.Common.{◌≡◌, Bool, List}
use Rattle.std.specs.Fn.{FnReturnsAt}
use Rattle.std.specs.Str.{bytes_eq}
use Rattle.form.specs.Lists.{names_at}
use Rattle.form.specs.Model.{Name}
use Rattle.rules.specs.Order.{when, some}
use Rattle.rules.specs.Told.{group, of_item}
use Rattle.rules.specs.Rows.{missing}
use Rattle.sinks.proofs.Walks.{Walked}
use Rattle.survey.proofs.groups.offer_missing.Given as goal

abbrev pub invariant-loop-item : goal.invariant-loop-item
invariant-loop-item g l =
    let f = g.F.FormSource.form l.form in
    (ids : List Name) → ((x : Name) (known : Bool) → FnReturnsAt g.K.Fn l.is_known x known → known ≡ some (bytes_eq x) ids) → Walked g.S.Sink (λ k x. when (missing ids x) (of_item l.names.rule (group l.place) l.names.list k)) 0 (names_at f l.names.list l.place) l.initial.sink l.item l.sink
