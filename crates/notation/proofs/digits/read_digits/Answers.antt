use Rattle.std.proofs.Common.{sym, ◌∙◌, arith}
use Rattle.notation.proofs.DigitScans.{digits_step, digits_stuck, digits_end}
use Rattle.notation.proofs.digits.read_digits.Goals as goal

pub returns-in_err-value : goal.returns-in_err-value
returns-in_err-value c =
    let step = digits_step _ _ _ c.args.text.now _ (omega arith) c.in_err-value.ensures in
    c.from_residual.ensures ∙ sym (digits_stuck _ _) ∙ sym step ∙ c.loop-digit.invariant

pub loop-digit-preserved : goal.loop-digit-preserved
loop-digit-preserved c = sym (digits_step _ _ _ c.args.text.now _ (omega arith) c.in_ok-value.ensures) ∙ c.loop-digit.invariant

pub returns : goal.returns
returns c = sym (digits_end _ _ _ c.args.text.now (omega arith)) ∙ c.loop-digit.invariant
