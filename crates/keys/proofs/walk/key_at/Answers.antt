use Rattle.std.proofs.Common.{sym, ap, ◌∙◌, arith}
use Rattle.std.specs.List.{slice_get}
use Rattle.form.specs.Shown.{key_name}
use Rattle.keys.proofs.ArgKeys.{key_here, key_later, keys_past}
use Rattle.keys.proofs.walk.key_at.Goals as goal

pub returns-then-rest-count : goal.returns-then-rest-count
returns-then-rest-count g c =
    let f = g.F.FormSource.form c.args.form.now in
    key_here f c.loop-place.place c.loop-place.rest c.args.i (key_name c.arg_key.result) (omega (arith, c.arg_count-place-end.ensures)) (omega (arith, c.arg_key_count-count.ensures)) c.arg_key.ensures c.loop-place.invariant

pub loop-place-preserved : goal.loop-place-preserved
loop-place-preserved g c =
    let f = g.F.FormSource.form c.args.form.now in
    key_later f c.loop-place.place c.loop-place.rest c.args.i c.arg_key_count-count.result (omega (arith, c.arg_count-place-end.ensures)) c.arg_key_count-count.ensures (omega arith) c.loop-place.invariant

pub returns : goal.returns
returns g c =
    let f = g.F.FormSource.form c.args.form.now in
    ap (λ ks. slice_get ks c.loop-place.rest) (sym (keys_past f c.loop-place.place (omega (arith, c.arg_count-place-end.ensures)))) ∙ c.loop-place.invariant
