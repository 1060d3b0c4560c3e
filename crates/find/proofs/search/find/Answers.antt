use Rattle.std.proofs.Common.{◌≡◌, Some, sym, ap, ◌∙◌, arith, rules}
use Rattle.std.specs.Option.{ok_or}
use Rattle.std.specs.List.{slice_get}
use Rattle.form.specs.Keys.{keys_of}
use Rattle.form.specs.Shown.{shown_key}
use Rattle.form.specs.declared.refusal.Refusal.TheVariants.{NoSuchKey}
use Rattle.find.proofs.Firsts.{first_yes, first_no, first_all, found_as}
use Rattle.find.proofs.search.find.Goals as goal

pub returns-then-matches : goal.returns-then-matches
returns-then-matches g c =
    let ks = keys_of (g.F.FormSource.form c.args.form.now) in
    let s = g.K.KeyKind.key c.args.sought in
    let here : Some (shown_key c.in_ok-key.key) ≡ slice_get ks c.loop-i.i = search rules in
    let e = ap (λ o. ok_or o NoSuchKey) (sym (c.loop-i.invariant ∙ first_yes s c.loop-i.i ks _ _ here c.matches.ensures c.if-matches.true)) in
    record { value = e; means = found_as s ks _ e }

pub loop-i-preserved : goal.loop-i-preserved
loop-i-preserved g c =
    let ks = keys_of (g.F.FormSource.form c.args.form.now) in
    let s = g.K.KeyKind.key c.args.sought in
    let here : Some (shown_key c.in_ok-key.key) ≡ slice_get ks c.loop-i.i = search rules in
    c.loop-i.invariant ∙ first_no s c.loop-i.i ks _ _ here c.matches.ensures c.if-matches.false

pub returns : goal.returns
returns g c =
    let ks = keys_of (g.F.FormSource.form c.args.form.now) in
    let s = g.K.KeyKind.key c.args.sought in
    let e = ap (λ o. ok_or o NoSuchKey) (sym (c.loop-i.invariant ∙ first_all s c.loop-i.i ks (omega arith))) in
    record { value = e; means = found_as s ks _ e }
