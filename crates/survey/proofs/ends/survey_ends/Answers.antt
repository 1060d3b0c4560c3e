use Rattle.survey.proofs.TwoEnds.{ends_one, ends_none}
use Rattle.survey.proofs.ends.survey_ends.Goals as goal

pub returns-in-Some-clause-took : goal.returns-in-Some-clause-took
returns-in-Some-clause-took g c = rw (ends_one (g.F.FormSource.form c.args.form.now) c.in-Some.last c.in-Some.before c.in-Some.ensures) c.offer_ends.ensures.took

pub returns-in-None-clause-took : goal.returns-in-None-clause-took
returns-in-None-clause-took g c = rw (ends_none (g.F.FormSource.form c.args.form.now) c.in-None.ensures) (g.S.Sink.none _)
