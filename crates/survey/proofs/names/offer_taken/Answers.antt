use Rattle.std.proofs.Common.{subst}
use Rattle.survey.proofs.TakenNames.{taken_twins}
use Rattle.survey.proofs.names.offer_taken.Goals as goal

pub returns-clause-took : goal.returns-clause-took
returns-clause-took g c =
    let f = g.F.FormSource.form c.args.form.now in
    let told = taken_twins f c.args.later c.args.item c.args.place c.name_count.result c.name_at.result.now c.name_at.ensures c.name_count.ensures in
    subst (λ l. g.S.Sink.after c.args.sink.now l c.offer_same.new.sink) told c.offer_same.ensures.took
