use Rattle.std.proofs.Common.{◌≡◌, arith, lit≤}
use lib.Count.{ones, count_trailing_zeros}
use Rattle.std.proofs.lemmas.Nat.{one_shl}
use Rattle.rules.specs.Told.{of_bit}
use Rattle.rules.specs.declared.rule.Rule.TheVariants.{SettingWithoutValue}
use Rattle.survey.proofs.Masks.{told_all, told_end, turn, turn_told}
use Rattle.sinks.proofs.Walks.{then_more, then_stop}
use Rattle.survey.proofs.value_settings.offer_bits.Goals as goal

pub loop-turn-init : goal.loop-turn-init
loop-turn-init g c = (c.requires, omega arith, λ u a. a)

pub overflow_shl-left : goal.overflow_shl-left
overflow_shl-left g c =
    let low = turn (of_bit SettingWithoutValue c.args.owner) c.args.settings c.loop-turn.left c.loop-turn._turn c.loop-turn.invariant.0 c.loop-turn.invariant.1 c.loop-turn-test.true in
    omega (arith, low.few)

pub overflow_sub-left : goal.overflow_sub-left
overflow_sub-left g c =
    let low = turn (of_bit SettingWithoutValue c.args.owner) c.args.settings c.loop-turn.left c.loop-turn._turn c.loop-turn.invariant.0 c.loop-turn.invariant.1 c.loop-turn-test.true in
    rw (one_shl (count_trailing_zeros 16 c.loop-turn.left) 16 (omega (arith, low.few))) low.low

pub loop-turn-preserved : goal.loop-turn-preserved
loop-turn-preserved g c =
    let b = of_bit SettingWithoutValue c.args.owner in
    let z = count_trailing_zeros 16 c.loop-turn.left in
    let low = turn b c.args.settings c.loop-turn.left c.loop-turn._turn c.loop-turn.invariant.0 c.loop-turn.invariant.1 c.loop-turn-test.true in
    rw (one_shl z 16 (omega (arith, low.few))) (
      omega (arith, c.loop-turn.invariant.0),
      omega (arith, low.count, c.loop-turn.invariant.1),
      λ u a. c.loop-turn.invariant.2 u (rw (turn_told b c.loop-turn.left z low) (then_more g.S.Sink _ _ (rw c.of_bit.ensures at c.offer.ensures.took) a)),
    )

pub returns-in_err-offer-clause-took : goal.returns-in_err-offer-clause-took
returns-in_err-offer-clause-took g c =
    let b = of_bit SettingWithoutValue c.args.owner in
    let z = count_trailing_zeros 16 c.loop-turn.left in
    let low = turn b c.args.settings c.loop-turn.left c.loop-turn._turn c.loop-turn.invariant.0 c.loop-turn.invariant.1 c.loop-turn-test.true in
    rw (told_all b c.args.settings 12) (c.loop-turn.invariant.2 _ (rw (turn_told b c.loop-turn.left z low) (then_stop g.S.Sink _ _ (rw c.of_bit.ensures at c.offer.ensures.took) c.in_err-offer.ensures.goes)))

pub returns-clause-took : goal.returns-clause-took
returns-clause-took g c =
    let b = of_bit SettingWithoutValue c.args.owner in
    let none : ones c.loop-turn.left ≡ 0 = omega (arith, c.loop-turn.invariant.1, c.loop-turn-test.false) in
    rw (told_all b c.args.settings 12) (c.loop-turn.invariant.2 _ (rw (told_end b 12 16 c.loop-turn.left (lit≤ tt) c.loop-turn.invariant.0 none) (g.S.Sink.none _)))
