use Rattle.std.proofs.Common.{◌≡◌, ℕ, true, false, ◌&&◌, eqb, sym, ap, ◌∙◌, arith}
use lib.Bits.{bit_and}
use Rattle.std.specs.List.{range_with_len}
use Rattle.std.proofs.lemmas.Nat.{and_le_r}
use Rattle.form.specs.Settings.{bit}
use Rattle.rules.specs.Order.{when}
use Rattle.rules.specs.Told.{argument, of_bit}
use Rattle.rules.specs.Words.{most}
use Rattle.rules.specs.Rows.{arg_of}
use Rattle.rules.specs.declared.rule.Rule.TheVariants.{SettingWithoutValue}
use Rattle.looks.specs.Records.{bare}
use Rattle.sinks.proofs.Walks.{blocks_none}
use Rattle.survey.proofs.arg_at.ArgAt.offer_value_settings.Goals as goal

-- an argument that takes values
pub returns-then-not-takes_none-clause-took : goal.returns-then-not-takes_none-clause-took
returns-then-not-takes_none-clause-took g c =
    let a = arg_of (g.F.FormSource.form c.args.self.now.form.now) c.args.self.now.place in
    let takes : eqb (most a) 0 ≡ false = ap (λ r. eqb (most (bare r)) 0) (sym c.args.self.now.shows) ∙ sym c.takes_none.ensures ∙ c.if-not-takes_none.true in
    let h = λ (k : ℕ) (_ : ℕ). when (eqb (most a) 0 && bit (bit_and a.settings 3568) k) (of_bit SettingWithoutValue (argument c.args.self.now.place) k) in
    rw (blocks_none h 0 (range_with_len 0 12) (λ k _. rw takes)) (g.S.Sink.none _)

pub offer_bits-requires : goal.offer_bits-requires
offer_bits-requires g c = omega (arith, and_le_r)

pub returns-clause-took : goal.returns-clause-took
returns-clause-took g c =
    let a = arg_of (g.F.FormSource.form c.args.self.now.form.now) c.args.self.now.place in
    let takes : eqb (most a) 0 ≡ true = ap (λ r. eqb (most (bare r)) 0) (sym c.args.self.now.shows) ∙ sym c.takes_none.ensures ∙ c.if-not-takes_none.false in
    let masked : c.bits.result ≡ a.settings = c.bits.ensures ∙ ap (λ r. r.settings) c.args.self.now.shows in
    rw (takes, ← masked, ← c.entry.ensures) c.offer_bits.ensures.took
