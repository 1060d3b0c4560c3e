use Rattle.std.proofs.Common.{◌≡◌, ◌+◌, ◌^◌, ◌<◌}
use lib.Count.{ones}
use Rattle.rules.specs.Told.{of_bit}
use Rattle.rules.specs.declared.rule.Rule.TheVariants.{SettingWithoutValue}
use Rattle.survey.proofs.Masks.{bits_told}
use Rattle.survey.proofs.value_settings.offer_bits.Given as goal

abbrev pub invariant-loop-turn : goal.invariant-loop-turn
invariant-loop-turn g l =
    (l.left < 2 ^ 12) × (ones l.left + l._turn ≡ ones l.settings)
    × ((u : g.row.S.Denot) → g.S.Sink.after l.sink (bits_told (of_bit SettingWithoutValue l.owner) 12 0 l.left) u
    → g.S.Sink.after l.initial.sink (bits_told (of_bit SettingWithoutValue l.owner) 12 0 l.settings) u)
