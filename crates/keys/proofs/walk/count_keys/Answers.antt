use Rattle.std.proofs.Common.{length, ap, arith}
use Rattle.keys.proofs.KeyLists.{form_keys_few}
use Rattle.keys.proofs.ArgKeys.{count_more, keys_past}
use Rattle.keys.proofs.walk.count_keys.Goals as goal

pub overflow_add-count : goal.overflow_add-count
overflow_add-count g c =
    let s = c.args.form.now in
    let f = g.F.FormSource.form s in
    omega (arith, form_keys_few f (g.F.FormSource.fits s), count_more f c.loop-place.place c.loop-place.count c.arg_key_count-count.result (omega (arith, c.arg_count-place-end.ensures)) c.arg_key_count-count.ensures c.loop-place.invariant)

pub loop-place-preserved : goal.loop-place-preserved
loop-place-preserved g c =
    let f = g.F.FormSource.form c.args.form.now in
    count_more f c.loop-place.place c.loop-place.count c.arg_key_count-count.result (omega (arith, c.arg_count-place-end.ensures)) c.arg_key_count-count.ensures c.loop-place.invariant

pub returns : goal.returns
returns g c =
    let f = g.F.FormSource.form c.args.form.now in
    omega (arith, c.loop-place.invariant, ap length (keys_past f c.loop-place.place (omega (arith, c.arg_count-place-end.ensures))))
