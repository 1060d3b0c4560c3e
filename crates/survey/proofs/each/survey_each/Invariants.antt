use Rattle.form.specs.Shown.{arg_record}
use Rattle.rules.specs.Told.{argument}
use Rattle.sinks.specs.Offers.{tests_told}
use Rattle.looks.specs.Records.{bare}
use Rattle.sinks.proofs.Walks.{Walked}
use Rattle.survey.proofs.each.survey_each.Given as goal

abbrev pub invariant-loop-place : goal.invariant-loop-place
invariant-loop-place g l =
    Walked g.S.Sink (λ p a. tests_told (argument p) (g.R.ArgRules.tests l.rules (bare (arg_record a)))) 0 (g.F.FormSource.form l.form).args l.initial.sink l.place l.sink
