use Rattle.std.proofs.Common.{◌≡◌, ℕ, ◌∙◌, arith}
use Rattle.report.proofs.Reported.{count_is, short_answer, short_list, long_answer, long_list, long_lists, long_tidy}
use Rattle.report.proofs.Few.{few}
use Rattle.report.proofs.calls.report.Goals as goal

pub returns-then-list-needed : goal.returns-then-list-needed
returns-then-list-needed g c =
    let s = c.args.form.now in
    let f = g.F.FormSource.form s in
    let is = c.count-needed.ensures ∙ count_is _ (few f (g.F.FormSource.fits s)) in
    record {
      answer = short_answer f c.args.list.now _ is (omega arith);
      list = short_list f c.args.list.now _ is (omega arith);
      lists = λ n e. let z : ◌≡◌ {A = ℕ} 0 1 = cc in absurd (omega arith);
      tidy = λ e. let z : ◌≡◌ {A = ℕ} 0 1 = cc in absurd (omega arith);
    }

pub returns : goal.returns
returns g c =
    let s = c.args.form.now in
    let f = g.F.FormSource.form s in
    let is = c.count-needed.ensures ∙ count_is _ (few f (g.F.FormSource.fits s)) in
    record {
      answer = long_answer f c.args.list.now _ is (omega arith);
      list = long_list f c.args.list.now _ is _ (omega arith) c.fill.ensures;
      lists = λ n e. long_lists f c.args.list.now _ is _ n (omega arith) c.fill.ensures e;
      tidy = λ e. long_tidy f c.args.list.now _ is e;
    }
