use Rattle.survey.proofs.Counts.{Counted}
use Rattle.survey.proofs.indices.count_positions.Given as goal

abbrev pub invariant-loop-place : goal.invariant-loop-place
invariant-loop-place g l = Counted (g.F.FormSource.form l.form).args l.place l.count l.highest
