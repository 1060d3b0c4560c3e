use Rattle.std.proofs.Common.{◌≡◌, suc, ◌<◌, length, drop, sym, ap, ◌∙◌, subst, arith}
use Rattle.rules.specs.Order.{blocks}
use Rattle.rules.specs.Words.{Owner, owners}
use Rattle.rules.specs.Report.{clash_report}
use Rattle.survey.specs.FlagOwners.{owner_numbered, flags_in}
use Rattle.survey.proofs.Owners.{owners_at}
use Rattle.sinks.proofs.Walks.{walk_step, walk_end, walk_stop}
use Rattle.survey.proofs.flags.survey_flags.Goals as goal

pub offer_owner-requires : goal.offer_owner-requires
offer_owner-requires g c = subst (λ h. c.loop-number.number < length (owners h)) c.source.ensures (omega arith)

pub loop-number-preserved : goal.loop-number-preserved
loop-number-preserved g c =
    let k = g.K.FlagKind in
    let f = k.form c.args.kind.now in
    let i = c.loop-number.number in
    let count : c.owner_count-number-end.result ≡ length (owners f) = c.owner_count-number-end.ensures ∙ ap (λ h. length (owners h)) c.source.ensures in
    let lt : i < length (owners f) = omega (arith, count) in
    let told = λ (o : Owner). blocks (λ n x. blocks (λ _ w. clash_report k.same g.K.FlagKind.rule o n x w (flags_in k.own k.aliases w)) (suc i) (drop (suc i) (owners f))) 0 (flags_in k.own k.aliases o) in
    let here = subst (λ o. g.S.Sink.after c.loop-number.sink (told o) c.offer_owner.new.sink) (sym (owners_at f i (owner_numbered f i) lt)) c.offer_owner.ensures.took in
    walk_step (owner_numbered f i) lt c.loop-number.invariant here

pub returns-in_err-offer_owner-clause-took : goal.returns-in_err-offer_owner-clause-took
returns-in_err-offer_owner-clause-took g c =
    let k = g.K.FlagKind in
    let f = k.form c.args.kind.now in
    let i = c.loop-number.number in
    let count : c.owner_count-number-end.result ≡ length (owners f) = c.owner_count-number-end.ensures ∙ ap (λ h. length (owners h)) c.source.ensures in
    let lt : i < length (owners f) = omega (arith, count) in
    let told = λ (o : Owner). blocks (λ n x. blocks (λ _ w. clash_report k.same g.K.FlagKind.rule o n x w (flags_in k.own k.aliases w)) (suc i) (drop (suc i) (owners f))) 0 (flags_in k.own k.aliases o) in
    let here = subst (λ o. g.S.Sink.after c.loop-number.sink (told o) c.offer_owner.new.sink) (sym (owners_at f i (owner_numbered f i) lt)) c.offer_owner.ensures.took in
    walk_stop (owner_numbered f i) lt c.loop-number.invariant here c.in_err-offer_owner.ensures.goes

pub returns-clause-took : goal.returns-clause-took
returns-clause-took g c =
    let f = g.K.FlagKind.form c.args.kind.now in
    let count : c.owner_count-number-end.result ≡ length (owners f) = c.owner_count-number-end.ensures ∙ ap (λ h. length (owners h)) c.source.ensures in
    walk_end (omega (arith, count)) c.loop-number.invariant
