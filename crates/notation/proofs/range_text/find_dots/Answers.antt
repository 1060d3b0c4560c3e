use Rattle.std.proofs.Common.{rules}
use Rattle.notation.proofs.Dots.{first_dots}
use Rattle.notation.proofs.range_text.find_dots.Goals as goal

pub returns-clause-value : goal.returns-clause-value
returns-clause-value c = first_dots c.args.text.now c.position.result (search rules)
