use Rattle.std.proofs.Common.{rules, ◌∙◌, not}
use Rattle.notation.specs.Words.{blank}
use Rattle.notation.proofs.Runs.{run_end, word_is, behind_is}
use Rattle.notation.proofs.words.next_word.Goals as goal

pub returns-clause-word : goal.returns-clause-word
returns-clause-word c =
    let start = run_end (λ b. not (blank b)) c.args.text.now c.position-start.result _ c.unwrap_or.ensures (search rules) in
    c.split_at.ensures.front ∙ word_is c.args.text.now _ _ start (run_end blank _ c.position-end.result _ c.unwrap_or-2.ensures (search rules))

pub returns-clause-rest : goal.returns-clause-rest
returns-clause-rest c =
    let start = run_end (λ b. not (blank b)) c.args.text.now c.position-start.result _ c.unwrap_or.ensures (search rules) in
    c.split_at.ensures.back ∙ behind_is c.args.text.now _ _ start (run_end blank _ c.position-end.result _ c.unwrap_or-2.ensures (search rules))
