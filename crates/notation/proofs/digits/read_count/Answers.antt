use Rattle.std.proofs.Common.{rules}
use Rattle.notation.proofs.DigitScans.{count_hex}
use Rattle.notation.proofs.digits.read_count.Goals as goal

pub returns-in-48 : goal.returns-in-48
returns-in-48 c = count_hex c.args.text.now _ (search rules) (search rules) c.read_digits.ensures
