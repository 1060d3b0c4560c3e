use Rattle.std.proofs.Common.{sym, ap, ◌∙◌, arith}
use Rattle.survey.proofs.Counts.{counted_skip, counted_more, counted_all}
use Rattle.survey.proofs.indices.count_positions.Goals as goal
use Rattle.survey.proofs.indices.count_positions.Goals.{in-Some, in_default}

pub loop-place-preserved : goal.loop-place-preserved
loop-place-preserved g c =
    let xs = (g.F.FormSource.form c.args.form.now).args in
    let index = ap (λ r. r.index) (sym c.arg.ensures) in
    elim c.match-arg.branch [
      | in-Some w ↦ rw (w.count-is, w.highest-is, w.max-highest.ensures) (counted_more xs c.loop-place.place _ _ _ (omega arith) (index ∙ w.in-Some.is) c.loop-place.invariant)
      | in_default w ↦ rw (w.count-is, w.highest-is) (counted_skip xs c.loop-place.place _ _ (omega arith) (index ∙ w.in_default.is) c.loop-place.invariant)
    ]

pub returns : goal.returns
returns g c =
    let all = counted_all (g.F.FormSource.form c.args.form.now).args c.loop-place.place c.loop-place.count c.loop-place.highest (omega arith) c.loop-place.invariant in
    record { count = all.0; highest = all.1 }
