use Rattle.std.proofs.Common.{suc, take}
use Rattle.rules.specs.Report.{taken_report}
use Rattle.survey.specs.Called.{name_of}
use Rattle.sinks.proofs.Walks.{Walked}
use Rattle.survey.proofs.names.offer_name.Given as goal

abbrev pub invariant-loop-place : goal.invariant-loop-place
invariant-loop-place g l =
    let f = g.F.FormSource.form l.form in
    Walked g.S.Sink (λ q t. taken_report l.later l.item (name_of f l.later l.item) q t) 0 (take (suc l.later) f.subcommands) l.initial.sink l.place l.sink
