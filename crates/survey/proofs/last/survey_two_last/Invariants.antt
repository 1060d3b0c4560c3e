use Rattle.std.proofs.Common.{[], ◌∷◌}
use Rattle.rules.specs.Order.{blocks}
use Rattle.rules.specs.Report.{arg_report}
use Rattle.rules.specs.Rows.{later, two_last}
use Rattle.rules.specs.declared.rule.Rule.TheVariants.{TwoLast}
use Rattle.sinks.proofs.Walks.{Walked}
use Rattle.survey.proofs.last.survey_two_last.Given as goal

abbrev pub invariant-loop-place : goal.invariant-loop-place
invariant-loop-place g l =
    let f = g.F.FormSource.form l.form in
    Walked g.S.Sink (λ p a. blocks (λ _ r. arg_report f p a r) 0 (later TwoLast two_last ∷ [])) 0 f.args l.initial.sink l.place l.sink
