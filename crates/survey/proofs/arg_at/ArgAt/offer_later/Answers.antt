use Rattle.std.proofs.Common.{ap, ◌∙◌, arith}
use Rattle.form.specs.Shown.{arg_record}
use Rattle.rules.specs.Rows.{arg_of}
use Rattle.looks.specs.Records.{bare}
use Rattle.survey.proofs.Pairs.{later_by}
use Rattle.survey.proofs.arg_at.ArgAt.offer_later.Goals as goal

pub overflow_add-self : goal.overflow_add-self
overflow_add-self g c = omega (arith, (g.F.FormSource.fits c.args.self.now.form.now).args, c.args.self.now.stands)

pub returns-clause-took : goal.returns-clause-took
returns-clause-took g c =
    let f = g.F.FormSource.form c.args.self.now.form.now in
    let p = c.args.self.now.place in
    let l = g.L.ArgLook in
    later_by g.S.Sink.after _ _ f p _ _ c.args.rule l.same _ c.entry.ensures c.arg_count.ensures
    (λ j. c.look-sought.ensures.same (bare (arg_record (arg_of f j))) ∙ ap (λ r. l.same (bare r) (bare (arg_record (arg_of f j)))) c.args.self.now.shows ∙ l.bare (arg_of f p) (arg_of f j))
    c.offer_same.ensures.took
