use Rattle.std.proofs.Common.{◌≡◌, drop, Some}
use Rattle.notation.specs.Digits.{digits_from, number_in}
use Rattle.notation.proofs.digits.read_digits.Given as goal

abbrev pub invariant-loop-digit : goal.invariant-loop-digit
invariant-loop-digit l = digits_from l.base (Some l.value) (drop l.digit-index l.text) ≡ number_in l.base l.text
