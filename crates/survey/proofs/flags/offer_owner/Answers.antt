use Rattle.std.proofs.Common.{◌≡◌, length, None, ap, ◌∙◌, subst, arith}
use Rattle.survey.specs.FlagOwners.{owner_in, owner_numbered, flags_in}
use Rattle.sinks.proofs.Walks.{walk_step, walk_end, walk_stop}
use Rattle.survey.proofs.flags.offer_owner.Goals as goal

pub loop-item-preserved : goal.loop-item-preserved
loop-item-preserved g c =
    let k = g.K.FlagKind in
    let f = k.form c.args.kind.now in
    let flags_of = flags_in k.own k.aliases in
    let owner = subst (λ h. owner_in h c.owner_at-owner.result ≡ owner_numbered h c.args.number) c.source.ensures c.owner_at-owner.ensures in
    let count : c.flag_count-item-end.result ≡ length (flags_of (owner_numbered f c.args.number)) = c.flag_count-item-end.ensures ∙ ap (λ w. length (flags_of w)) owner in
    walk_step None (omega (arith, count)) c.loop-item.invariant c.offer_flag.ensures.took

pub returns-in_err-offer_flag-clause-took : goal.returns-in_err-offer_flag-clause-took
returns-in_err-offer_flag-clause-took g c =
    let k = g.K.FlagKind in
    let f = k.form c.args.kind.now in
    let flags_of = flags_in k.own k.aliases in
    let owner = subst (λ h. owner_in h c.owner_at-owner.result ≡ owner_numbered h c.args.number) c.source.ensures c.owner_at-owner.ensures in
    let count : c.flag_count-item-end.result ≡ length (flags_of (owner_numbered f c.args.number)) = c.flag_count-item-end.ensures ∙ ap (λ w. length (flags_of w)) owner in
    walk_stop None (omega (arith, count)) c.loop-item.invariant c.offer_flag.ensures.took c.in_err-offer_flag.ensures.goes

pub returns-clause-took : goal.returns-clause-took
returns-clause-took g c =
    let k = g.K.FlagKind in
    let f = k.form c.args.kind.now in
    let flags_of = flags_in k.own k.aliases in
    let owner = subst (λ h. owner_in h c.owner_at-owner.result ≡ owner_numbered h c.args.number) c.source.ensures c.owner_at-owner.ensures in
    let count : c.flag_count-item-end.result ≡ length (flags_of (owner_numbered f c.args.number)) = c.flag_count-item-end.ensures ∙ ap (λ w. length (flags_of w)) owner in
    walk_end (omega (arith, count)) c.loop-item.invariant
