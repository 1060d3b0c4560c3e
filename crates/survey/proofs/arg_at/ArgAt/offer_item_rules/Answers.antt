use Rattle.std.proofs.Common.{[], get_or, ap, ◌∙◌}
use Rattle.std.specs.Str.{bytes_eq}
use Rattle.form.specs.Lists.{names_at}
use Rattle.rules.specs.Order.{blocks, some}
use Rattle.rules.specs.Rows.{ids, requires_itself, required_conditionally}
use Rattle.looks.specs.Records.{bare, seen}
use Rattle.sinks.proofs.Walks.{then_more, then_stop}
use Rattle.survey.proofs.arg_at.ArgAt.offer_item_rules.Goals as goal

pub returns-in_err-offer_if-clause-took : goal.returns-in_err-offer_if-clause-took
unfolding blocks
returns-in_err-offer_if-clause-took g c =
    let k = g.S.Sink in
    let f = g.F.FormSource.form c.args.self.now.form.now in
    let l = c.args.list in
    let x = get_or (names_at f l c.args.self.now.place) c.args.item [] in
    let itself = c.requires_itself-itself.ensures ∙ ap (λ n. requires_itself l (seen c.args.self.now.arg) n) c.name-name.ensures ∙ ap (λ r. requires_itself l (bare r) x) c.args.self.now.shows in
    then_stop k _ _ (rw (itself, c.of_item.ensures, c.entry.ensures) at c.offer_if.ensures.took) c.in_err-offer_if.ensures.goes

pub returns-in_err-offer_if-2-clause-took : goal.returns-in_err-offer_if-2-clause-took
unfolding blocks
returns-in_err-offer_if-2-clause-took g c =
    let k = g.S.Sink in
    let f = g.F.FormSource.form c.args.self.now.form.now in
    let l = c.args.list in
    let x = get_or (names_at f l c.args.self.now.place) c.args.item [] in
    let itself = c.requires_itself-itself.ensures ∙ ap (λ n. requires_itself l (seen c.args.self.now.arg) n) c.name-name.ensures ∙ ap (λ r. requires_itself l (bare r) x) c.args.self.now.shows in
    let conditional = c.required_conditionally-conditional.ensures x ∙ ap (λ r. required_conditionally l (bare r) x) c.args.self.now.shows in
    then_more k _ _ (rw (itself, c.of_item.ensures, c.entry.ensures) at c.offer_if.ensures.took)
    (then_stop k _ _ (rw (conditional, c.of_item-2.ensures, c.entry-2.ensures) at c.offer_if-2.ensures.took) c.in_err-offer_if-2.ensures.goes)

pub returns-clause-took : goal.returns-clause-took
unfolding blocks
returns-clause-took g c =
    let k = g.S.Sink in
    let f = g.F.FormSource.form c.args.self.now.form.now in
    let l = c.args.list in
    let x = get_or (names_at f l c.args.self.now.place) c.args.item [] in
    let itself = c.requires_itself-itself.ensures ∙ ap (λ n. requires_itself l (seen c.args.self.now.arg) n) c.name-name.ensures ∙ ap (λ r. requires_itself l (bare r) x) c.args.self.now.shows in
    let conditional = c.required_conditionally-conditional.ensures x ∙ ap (λ r. required_conditionally l (bare r) x) c.args.self.now.shows in
    let named = c.names_entry-missing.ensures ∙ ap (λ n. some (bytes_eq n) (ids f)) c.name-name.ensures in
    then_more k _ _ (rw (itself, c.of_item.ensures, c.entry.ensures) at c.offer_if.ensures.took)
    (then_more k _ _ (rw (conditional, c.of_item-2.ensures, c.entry-2.ensures) at c.offer_if-2.ensures.took)
    (then_more k _ _ (rw (named, c.of_item-3.ensures, c.entry-3.ensures) at c.offer_if-3.ensures.took) (k.none _)))
