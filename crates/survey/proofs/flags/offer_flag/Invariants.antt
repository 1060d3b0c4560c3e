use Rattle.std.proofs.Common.{◌+◌}
use Rattle.rules.specs.Words.{owners}
use Rattle.survey.specs.FlagOwners.{owner_numbered, flags_in, clash_told}
use Rattle.sinks.proofs.Walks.{Walked}
use Rattle.survey.proofs.flags.offer_flag.Given as goal

abbrev pub invariant-loop-later : goal.invariant-loop-later
invariant-loop-later g l =
    let k = g.K.FlagKind in
    let f = k.form l.kind in
    Walked g.S.Sink (λ _ w. clash_told k.same (flags_in k.own k.aliases) g.K.FlagKind.rule (owner_numbered f l.number) l.item w) (l.number + 1) (owners f) l.initial.sink l.later l.sink
