use Rattle.std.proofs.Common.{◌≡◌, suc, ◌-◌, not, ◌&&◌, ap, ◌∙◌, arith}
use Rattle.form.specs.Settings.{arg_set}
use Rattle.form.specs.declared.arg_settings.ArgSettings.TheVariants.{Required}
use Rattle.rules.specs.Rows.{arg_of}
use Rattle.rules.specs.Told.{of_one}
use Rattle.rules.specs.declared.rule.Rule.TheVariants.{OptionalBeforeRequired}
use Rattle.looks.specs.Records.{bare}
use Rattle.survey.specs.Settled.{settles}
use Rattle.survey.proofs.Descents.{told_at, descent_start, descent_step, descent_end, descent_stop, told_some, told_absent, settled_some, settled_absent}
use Rattle.survey.proofs.positions.survey_positions.Goals as goal
use Rattle.survey.proofs.positions.survey_positions.Goals.{then-optional, else-optional}

pub loop-position-init : goal.loop-position-init
loop-position-init g c = descent_start g.S.Sink.after (g.F.FormSource.form c.args.form.now) _ _ c.count_positions-position.ensures.count

-- a position with no argument
pub loop-position-preserved-in_default : goal.loop-position-preserved-in_default
loop-position-preserved-in_default g c =
    let k = g.S.Sink in
    let f = g.F.FormSource.form c.args.form.now in
    let n = c.loop-position.position in
    let e : n ≡ suc (n - 1) = omega arith in
    let found = c.loop-position.settled_above in
    let at = c.in_default.ensures in
    let here : k.after c.loop-position.sink (told_at f n) c.loop-position.sink = rw (told_absent f n at) (k.none _) in
    descent_step k.after k.more f _ _ _ n (n - 1) found found e c.loop-position.invariant here (settled_absent f n found at)

pub returns-in_err-offer_if-clause-took : goal.returns-in_err-offer_if-clause-took
returns-in_err-offer_if-clause-took g c =
    let k = g.S.Sink in
    let f = g.F.FormSource.form c.args.form.now in
    let n = c.loop-position.position in
    let p = c.in-Some.place in
    let e : n ≡ suc (n - 1) = omega arith in
    let found = c.loop-position.settled_above in
    let required : c.is_set-optional.result ≡ arg_set (arg_of f p).settings Required = c.is_set-optional.ensures ∙ ap (λ r. arg_set r.settings Required) c.arg-arg.ensures in
    let test : c.if-optional.offer_if ≡ (not (arg_set (arg_of f p).settings Required) && found) = elim c.if-optional.branch [
      | then-optional w ↦ rw (← required, w.if-optional.true) w.offer_if-is
      | else-optional w ↦ rw (← required, w.if-optional.false) (w.offer_if-is ∙ ap not w.if-optional.false)
    ] in
    let told = told_some f n p _ found _ c.in-Some.ensures c.loop-position.invariant.above test (c.of_one-breach.ensures ∙ ap (of_one OptionalBeforeRequired) c.argument_at.ensures) in
    descent_stop k f _ _ c.offer_if.new.sink n (n - 1) found e c.loop-position.invariant (rw told c.offer_if.ensures.took) c.in_err-offer_if.ensures.goes

pub loop-position-preserved : goal.loop-position-preserved
loop-position-preserved g c =
    let k = g.S.Sink in
    let f = g.F.FormSource.form c.args.form.now in
    let n = c.loop-position.position in
    let p = c.in-Some.place in
    let e : n ≡ suc (n - 1) = omega arith in
    let found = c.loop-position.settled_above in
    let required : c.is_set-optional.result ≡ arg_set (arg_of f p).settings Required = c.is_set-optional.ensures ∙ ap (λ r. arg_set r.settings Required) c.arg-arg.ensures in
    let test : c.if-optional.offer_if ≡ (not (arg_set (arg_of f p).settings Required) && found) = elim c.if-optional.branch [
      | then-optional w ↦ rw (← required, w.if-optional.true) w.offer_if-is
      | else-optional w ↦ rw (← required, w.if-optional.false) (w.offer_if-is ∙ ap not w.if-optional.false)
    ] in
    let told = told_some f n p _ found _ c.in-Some.ensures c.loop-position.invariant.above test (c.of_one-breach.ensures ∙ ap (of_one OptionalBeforeRequired) c.argument_at.ensures) in
    let settled = settled_some f n p found c.is_settled.result c.in-Some.ensures (c.is_settled.ensures ∙ ap (λ r. settles (bare r)) c.arg-arg.ensures) in
    descent_step k.after k.more f _ _ c.offer_if.new.sink n (n - 1) found _ e c.loop-position.invariant (rw told c.offer_if.ensures.took) settled

pub returns-clause-took : goal.returns-clause-took
returns-clause-took g c = descent_end g.S.Sink.after g.S.Sink.none (g.F.FormSource.form c.args.form.now) _ _ c.loop-position.position _ (omega arith) c.loop-position.invariant
