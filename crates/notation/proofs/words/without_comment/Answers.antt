use Rattle.std.proofs.Common.{rules, ap, take, ◌==◌}
use Rattle.notation.proofs.Runs.{run_end}
use Rattle.notation.proofs.words.without_comment.Goals as goal

pub returns : goal.returns
returns c =
    let s = c.args.line.now in
    ap (λ n. take n s) (run_end (λ b. b == 35) s c.position-end.result _ c.unwrap_or.ensures (search rules))
