use Rattle.std.proofs.Common.{arith}
use Rattle.keys.proofs.KeyLists.{form_keys_few}
use Rattle.layers.proofs.Places.{fitting_few}
use Rattle.layers.proofs.FlagKeys.{flags_key_count}
use Rattle.layers.proofs.standard_flags.StandardFlagsKeyed.key_count.Goals as goal

pub overflow_mul-result : goal.overflow_mul-result
overflow_mul-result g c = omega (arith, fitting_few (g.K.FormSource.form c.args.self.now.inner), c.flag_count.ensures)

pub overflow_add-result : goal.overflow_add-result
overflow_add-result g c =
    let s = c.args.self.now.inner in
    let f = g.K.FormSource.form s in
    omega (arith, fitting_few f, form_keys_few f (g.K.FormSource.fits s), c.key_count.ensures, c.flag_count.ensures)

pub returns : goal.returns
returns g c =
    let s = c.args.self.now.inner in
    omega (arith, flags_key_count (g.K.FormSource.form s) (g.K.FormSource.fits s).args, c.key_count.ensures, c.flag_count.ensures)
