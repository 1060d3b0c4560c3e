use Rattle.std.proofs.Common.{◌≡◌, sym, ap, ◌∙◌, subst}
use Rattle.std.specs.Option.{option_map}
use Rattle.rules.specs.Rows.{differ}
use Rattle.survey.specs.FlagOwners.{owner_in, flags_in}
use Rattle.survey.proofs.Clashes.{clash_none, clash_twins}
use Rattle.survey.proofs.flags.offer_clashes.Goals as goal

pub returns-then-not-differ-clause-took : goal.returns-then-not-differ-clause-took
returns-then-not-differ-clause-took g c =
    let k = g.K.FlagKind in
    let f = k.form c.args.kind.now in
    let o = owner_in f c.args.one in
    let w = owner_in f c.args.other in
    let is : c.differ.result ≡ differ o w = c.differ.ensures ∙ ap (λ h. differ (owner_in h c.args.one) (owner_in h c.args.other)) c.source.ensures in
    rw (clash_none k.same g.K.FlagKind.rule o c.args.item _ w (flags_in k.own k.aliases w) (sym is ∙ c.if-not-differ.true)) (g.S.Sink.none _)

pub returns-clause-took : goal.returns-clause-took
returns-clause-took g c =
    let k = g.K.FlagKind in
    let f = k.form c.args.kind.now in
    let o = owner_in f c.args.one in
    let w = owner_in f c.args.other in
    let is : c.differ.result ≡ differ o w = c.differ.ensures ∙ ap (λ h. differ (owner_in h c.args.one) (owner_in h c.args.other)) c.source.ensures in
    let told = clash_twins k.same g.K.FlagKind.rule o c.args.item _ (option_map k.plain c.flag.result) w (flags_in k.own k.aliases w) c.flag_count.result c.entry.result
    (sym is ∙ c.if-not-differ.false) c.flag_count.ensures c.flag.ensures.value (c.entry.ensures f) in
    subst (λ l. g.S.Sink.after c.args.sink.now l c.offer_same.new.sink) told c.offer_same.ensures.took
