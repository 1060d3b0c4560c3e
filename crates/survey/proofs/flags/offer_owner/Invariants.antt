use Rattle.std.proofs.Common.{suc, drop}
use Rattle.rules.specs.Order.{blocks}
use Rattle.rules.specs.Words.{owners}
use Rattle.rules.specs.Report.{clash_report}
use Rattle.survey.specs.FlagOwners.{owner_numbered, flags_in}
use Rattle.sinks.proofs.Walks.{Walked}
use Rattle.survey.proofs.flags.offer_owner.Given as goal

abbrev pub invariant-loop-item : goal.invariant-loop-item
invariant-loop-item g l =
    let k = g.K.FlagKind in
    let f = k.form l.kind in
    let o = owner_numbered f l.number in
    let flags_of = flags_in k.own k.aliases in
    Walked g.S.Sink (λ n x. blocks (λ _ w. clash_report k.same g.K.FlagKind.rule o n x w (flags_of w)) (suc l.number) (drop (suc l.number) (owners f))) 0 (flags_of o) l.initial.sink l.item l.sink
