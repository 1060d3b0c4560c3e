use Rattle.std.proofs.Common.{suc, drop}
use Rattle.rules.specs.Order.{blocks}
use Rattle.rules.specs.Words.{owners}
use Rattle.rules.specs.Report.{clash_report}
use Rattle.survey.specs.FlagOwners.{flags_in}
use Rattle.sinks.proofs.Walks.{Walked}
use Rattle.survey.proofs.flags.survey_flags.Given as goal

abbrev pub invariant-loop-number : goal.invariant-loop-number
invariant-loop-number g l =
    let k = g.K.FlagKind in
    let os = owners (k.form l.kind) in
    let flags_of = flags_in k.own k.aliases in
    Walked g.S.Sink (λ i o. blocks (λ n x. blocks (λ _ w. clash_report k.same g.K.FlagKind.rule o n x w (flags_of w)) (suc i) (drop (suc i) os)) 0 (flags_of o)) 0 os l.initial.sink l.number l.sink
