use Rattle.std.proofs.Common.{refl}
use Rattle.rules.specs.declared.rule.Rule.TheVariants.{OpenBeforeOptional, MultipleElsewhere, TooManyMultiple}
use Rattle.rules.specs.Rows.{open_before_optional, multiple_low, too_many_wide}
use Rattle.survey.proofs.TwoEnds.{end_offered}
use Rattle.sinks.proofs.Walks.{then_more, then_stop}
use Rattle.survey.proofs.ends.offer_ends.Goals as goal

pub returns-in_err-offer_if-clause-took : goal.returns-in_err-offer_if-clause-took
returns-in_err-offer_if-clause-took g c =
    let k = g.S.Sink in
    let f = g.F.FormSource.form c.args.form.now in
    let p = c.args.last in
    let q = c.args.before in
    let opened = end_offered k.after _ c.offer_if.new.sink OpenBeforeOptional open_before_optional f p q _ _ _ _ _ _ (c.open_before_optional-open.ensures f) c.arg.ensures c.arg-2.ensures c.argument_at-first.ensures c.argument_at-second.ensures c.of_two.ensures refl c.offer_if.ensures.took in
    then_stop k _ _ opened c.in_err-offer_if.ensures.goes

pub returns-in_err-offer_if-2-clause-took : goal.returns-in_err-offer_if-2-clause-took
returns-in_err-offer_if-2-clause-took g c =
    let k = g.S.Sink in
    let f = g.F.FormSource.form c.args.form.now in
    let p = c.args.last in
    let q = c.args.before in
    let opened = end_offered k.after _ c.offer_if.new.sink OpenBeforeOptional open_before_optional f p q _ _ _ _ _ _ (c.open_before_optional-open.ensures f) c.arg.ensures c.arg-2.ensures c.argument_at-first.ensures c.argument_at-second.ensures c.of_two.ensures refl c.offer_if.ensures.took in
    let low = end_offered k.after _ c.offer_if-2.new.sink MultipleElsewhere multiple_low f p q _ _ _ _ _ _ c.multiple_low-low.ensures c.arg.ensures c.arg-2.ensures c.argument_at-first.ensures c.argument_at-second.ensures c.of_two-2.ensures refl c.offer_if-2.ensures.took in
    then_more k _ _ opened (then_stop k _ _ low c.in_err-offer_if-2.ensures.goes)

pub returns-clause-took : goal.returns-clause-took
returns-clause-took g c =
    let k = g.S.Sink in
    let f = g.F.FormSource.form c.args.form.now in
    let p = c.args.last in
    let q = c.args.before in
    let opened = end_offered k.after _ c.offer_if.new.sink OpenBeforeOptional open_before_optional f p q _ _ _ _ _ _ (c.open_before_optional-open.ensures f) c.arg.ensures c.arg-2.ensures c.argument_at-first.ensures c.argument_at-second.ensures c.of_two.ensures refl c.offer_if.ensures.took in
    let low = end_offered k.after _ c.offer_if-2.new.sink MultipleElsewhere multiple_low f p q _ _ _ _ _ _ c.multiple_low-low.ensures c.arg.ensures c.arg-2.ensures c.argument_at-first.ensures c.argument_at-second.ensures c.of_two-2.ensures refl c.offer_if-2.ensures.took in
    let many = end_offered k.after _ c.offer_if-3.new.sink TooManyMultiple too_many_wide f p q _ _ _ _ _ _ c.too_many_wide-many.ensures c.arg.ensures c.arg-2.ensures c.argument_at-first.ensures c.argument_at-second.ensures c.of_two-3.ensures refl c.offer_if-3.ensures.took in
    then_more k _ _ opened (then_more k _ _ low many)
