use Rattle.std.proofs.Common.{suc, take}
use Rattle.rules.specs.Order.{blocks}
use Rattle.rules.specs.Report.{called, taken_report}
use Rattle.survey.specs.Called.{subcommand_of}
use Rattle.sinks.proofs.Walks.{Walked}
use Rattle.survey.proofs.names.offer_names.Given as goal

abbrev pub invariant-loop-item : goal.invariant-loop-item
invariant-loop-item g l =
    let f = g.F.FormSource.form l.form in
    Walked g.S.Sink (λ k x. blocks (λ q t. taken_report l.later k x q t) 0 (take (suc l.later) f.subcommands)) 0 (called (subcommand_of f l.later)) l.initial.sink l.item l.sink
