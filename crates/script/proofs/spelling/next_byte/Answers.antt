use Rattle.std.proofs.Common.{ap, arith, rules}
use Rattle.std.specs.Option.{option_map}
use Rattle.script.proofs.Spells.{escape_some, escape_none, escape_short, plain_first, rest_shorter, first_none}
use Rattle.script.proofs.spelling.next_byte.Goals as goal

pub returns-in_err-escaped-in-92 : goal.returns-in_err-escaped-in-92
returns-in_err-escaped-in-92 c = first_none c.args.text.now _ (escape_none c.args.text.now _ (search rules) (search rules) c.escaped.ensures c.in_err-escaped-in-92.was) (ap (option_map _) c.from_residual.ensures)

pub returns-in-92-2 : goal.returns-in-92-2
returns-in-92-2 c = λ l. escape_short c.args.text.now (search rules) (search rules) l

pub returns-in_ok-escaped-in-92 : goal.returns-in_ok-escaped-in-92
returns-in_ok-escaped-in-92 c =
    (escape_some c.args.text.now _ _ (search rules) (search rules) c.escaped.ensures c.in_ok-escaped-in-92.was, rest_shorter c.args.text.now 4 (omega arith) (search rules))

pub returns-in-len1-up : goal.returns-in-len1-up
returns-in-len1-up c = (plain_first c.args.text.now (search rules) (search rules), rest_shorter c.args.text.now 1 (omega arith) (search rules))
