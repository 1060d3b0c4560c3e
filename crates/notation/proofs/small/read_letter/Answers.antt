use Rattle.std.proofs.Common.{rules}
use Rattle.notation.proofs.Letters.{letter_some}
use Rattle.notation.proofs.small.read_letter.Goals as goal

pub returns-in-85 : goal.returns-in-85
returns-in-85 c = letter_some c.args.text.now _ (search rules) (search rules) (search rules) c.read_code.ensures
