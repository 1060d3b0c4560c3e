use Rattle.std.proofs.Common.{length, get_or, ap, arith}
use Rattle.form.specs.Model.{blank_arg}
use Rattle.keys.specs.KeysAt.{own_names}
use Rattle.keys.proofs.ArgKeys.{names_total, no_index, place_few}
use Rattle.keys.proofs.walk.arg_key_count.Goals as goal

pub overflow_add-result : goal.overflow_add-result
overflow_add-result g c =
    let s = c.args.form.now in
    let f = g.F.FormSource.form s in
    let a = get_or f.args c.args.place blank_arg in
    let e = no_index _ a.index c.if-is_some.ensures (ap (λ r. r.index) c.arg-arg.ensures) in
    omega (arith, place_few f c.args.place (g.F.FormSource.fits s), names_total a e, c.own_key_count-own.ensures, ap (λ r. length (own_names r.letter r.long)) c.arg-arg.ensures, c.letter_count-letters.ensures, c.name_count-longs.ensures)

pub overflow_add-result-2 : goal.overflow_add-result-2
overflow_add-result-2 g c =
    let s = c.args.form.now in
    let f = g.F.FormSource.form s in
    let a = get_or f.args c.args.place blank_arg in
    let e = no_index _ a.index c.if-is_some.ensures (ap (λ r. r.index) c.arg-arg.ensures) in
    omega (arith, place_few f c.args.place (g.F.FormSource.fits s), names_total a e, c.own_key_count-own.ensures, ap (λ r. length (own_names r.letter r.long)) c.arg-arg.ensures, c.letter_count-letters.ensures, c.name_count-longs.ensures)
