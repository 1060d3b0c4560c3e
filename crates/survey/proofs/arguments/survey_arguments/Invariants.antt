use Rattle.form.specs.Lists.{names_at}
use Rattle.rules.specs.Order.{blocks}
use Rattle.rules.specs.Report.{arg_report}
use Rattle.rules.specs.Rows.{arg_of, arg_rows}
use Rattle.survey.specs.Parts.{references, list_told, item_told}
use Rattle.sinks.proofs.Walks.{Walked}
use Rattle.survey.proofs.arguments.survey_arguments.Given as goal

abbrev pub invariant-walk : goal.invariant-walk
invariant-walk g l =
    let f = g.F.FormSource.form l.form in
    Walked g.S.Sink (λ p a. blocks (λ _ r. arg_report f p a r) 0 arg_rows) 0 f.args l.initial.sink l.place l.sink

abbrev pub invariant-loop-list : goal.invariant-loop-list
invariant-loop-list g l =
    let f = g.F.FormSource.form l.form in
    Walked g.S.Sink (λ _ x. list_told f l.place x) 0 references l.initial.sink l.list-index l.sink

abbrev pub invariant-loop-item : goal.invariant-loop-item
invariant-loop-item g l =
    let f = g.F.FormSource.form l.form in
    Walked g.S.Sink (λ k x. item_told f l.place (arg_of f l.place) l.list k x) 0 (names_at f l.list l.place) l.initial.sink l.item l.sink
