use Rattle.std.proofs.Common.{◌∙◌, arith}
use Rattle.report.proofs.Reported.{count_is, all_is, all_lists}
use Rattle.report.proofs.Few.{few}
use Rattle.report.proofs.calls.report_all.Goals as goal

pub returns : goal.returns
returns g c =
    let s = c.args.form.now in
    let f = g.F.FormSource.form s in
    let is = c.count.ensures ∙ count_is _ (few f (g.F.FormSource.fits s)) in
    let made = c.in_ok-list.ensures.len in
    let value = all_is f _ _ _ _ _ is (omega (arith, made, c.as_mut_slice.ensures.len)) made c.fill.ensures in
    record { value = value; lists = all_lists f _ value }
