use Rattle.rules.specs.Order.{when}
use Rattle.rules.specs.Told.{subcommand, of_one}
use Rattle.rules.specs.Rows.{dashed}
use Rattle.rules.specs.declared.rule.Rule.TheVariants.{LongFlagDash}
use Rattle.sinks.proofs.Walks.{Walked}
use Rattle.survey.proofs.subcommands.survey_dashed_flags.Given as goal

abbrev pub invariant-loop-place : goal.invariant-loop-place
invariant-loop-place g l =
    Walked g.S.Sink (λ p s. when (dashed s.long) (of_one LongFlagDash (subcommand p))) 0 (g.F.FormSource.form l.form).subcommands l.initial.sink l.place l.sink
