use Rattle.std.proofs.Common.{◌≡◌, ◌<◌, ◌≤◌, length, get_or, sym, ◌∙◌, subst, arith}
use Rattle.rules.specs.Words.{Owner, owners}
use Rattle.survey.specs.FlagOwners.{owner_in, owner_numbered, flags_in, clash_told}
use Rattle.survey.proofs.Owners.{few_owners, owners_at}
use Rattle.survey.proofs.Clashes.{of_both, from_next}
use Rattle.sinks.proofs.Walks.{walk_step, walk_end, walk_stop}
use Rattle.survey.proofs.flags.offer_flag.Goals as goal

pub overflow_step-later : goal.overflow_step-later
overflow_step-later g c =
    let f = g.K.FlagKind.form c.args.kind.now in
    let few : length (owners f) ≤ 112 = subst (λ h. length (owners h) ≤ 112) c.source-form.ensures (few_owners _ (g.K.Source.FormSource.fits c.source-form.result.now)) in
    omega arith

pub loop-later-preserved : goal.loop-later-preserved
loop-later-preserved g c =
    let k = g.K.FlagKind in
    let f = k.form c.args.kind.now in
    let j = c.loop-later.later in
    let told = λ (o w : Owner). clash_told k.same (flags_in k.own k.aliases) g.K.FlagKind.rule o c.args.item w in
    let lt : j < length (owners f) = subst (λ h. j < length (owners h)) c.source-form.ensures (omega arith) in
    let one = subst (λ h. owner_in h c.owner_at-one.result ≡ owner_numbered h c.args.number) c.source-form.ensures c.owner_at-one.ensures in
    let other : owner_in f c.owner_at.result ≡ get_or (owners f) j (owner_numbered f j) = subst (λ h. owner_in h c.owner_at.result ≡ owner_numbered h j) c.source-form.ensures c.owner_at.ensures ∙ sym (owners_at f j _ lt) in
    let here = of_both g.S.Sink.after _ c.offer_clashes.new.sink told _ _ _ _ one other c.offer_clashes.ensures.took in
    walk_step (owner_numbered f j) lt c.loop-later.invariant here

pub returns-in_err-offer_clashes-clause-took : goal.returns-in_err-offer_clashes-clause-took
returns-in_err-offer_clashes-clause-took g c =
    let k = g.K.FlagKind in
    let f = k.form c.args.kind.now in
    let j = c.loop-later.later in
    let told = λ (o w : Owner). clash_told k.same (flags_in k.own k.aliases) g.K.FlagKind.rule o c.args.item w in
    let lt : j < length (owners f) = subst (λ h. j < length (owners h)) c.source-form.ensures (omega arith) in
    let one = subst (λ h. owner_in h c.owner_at-one.result ≡ owner_numbered h c.args.number) c.source-form.ensures c.owner_at-one.ensures in
    let other : owner_in f c.owner_at.result ≡ get_or (owners f) j (owner_numbered f j) = subst (λ h. owner_in h c.owner_at.result ≡ owner_numbered h j) c.source-form.ensures c.owner_at.ensures ∙ sym (owners_at f j _ lt) in
    let here = of_both g.S.Sink.after _ c.offer_clashes.new.sink told _ _ _ _ one other c.offer_clashes.ensures.took in
    from_next g.S.Sink.after _ _ _ c.args.number (owners f) (walk_stop (owner_numbered f j) lt c.loop-later.invariant here c.in_err-offer_clashes.ensures.goes)

pub returns-clause-took : goal.returns-clause-took
returns-clause-took g c =
    let f = g.K.FlagKind.form c.args.kind.now in
    let j = c.loop-later.later in
    let le : length (owners f) ≤ j = subst (λ h. length (owners h) ≤ j) c.source-form.ensures (omega arith) in
    from_next g.S.Sink.after _ _ _ c.args.number (owners f) (walk_end le c.loop-later.invariant)
