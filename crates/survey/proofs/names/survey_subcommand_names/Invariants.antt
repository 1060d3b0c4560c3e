use Rattle.std.proofs.Common.{suc, take}
use Rattle.rules.specs.Order.{blocks}
use Rattle.rules.specs.Report.{called, taken_report}
use Rattle.sinks.proofs.Walks.{Walked}
use Rattle.survey.proofs.names.survey_subcommand_names.Given as goal

abbrev pub invariant-loop-later : goal.invariant-loop-later
invariant-loop-later g l =
    let ss = (g.F.FormSource.form l.form).subcommands in
    Walked g.S.Sink (λ p t. blocks (λ k x. blocks (λ q u. taken_report p k x q u) 0 (take (suc p) ss)) 0 (called t)) 0 ss l.initial.sink l.later l.sink
