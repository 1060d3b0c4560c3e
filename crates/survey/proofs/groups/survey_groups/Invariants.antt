use Rattle.rules.specs.Order.{blocks}
use Rattle.rules.specs.Report.{group_report}
use Rattle.rules.specs.Rows.{group_rows}
use Rattle.sinks.proofs.Walks.{Walked}
use Rattle.survey.proofs.groups.survey_groups.Given as goal

abbrev pub invariant-loop-place : goal.invariant-loop-place
invariant-loop-place g l =
    let f = g.F.FormSource.form l.form in
    Walked g.S.Sink (λ p a. blocks (λ _ r. group_report f p a r) 0 group_rows) 0 f.groups l.initial.sink l.place l.sink
