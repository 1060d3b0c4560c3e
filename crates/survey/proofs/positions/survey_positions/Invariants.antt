use Rattle.survey.proofs.Descents.{Descent}
use Rattle.survey.proofs.positions.survey_positions.Given as goal

abbrev pub invariant-loop-position : goal.invariant-loop-position
invariant-loop-position g l = Descent g.S.Sink.after (g.F.FormSource.form l.form) l.initial.sink l.position l.sink l.settled_above
