use Rattle.std.proofs.Common.{arith}
use Rattle.layers.proofs.Places.{flags_arg_count, fitting_few}
use Rattle.layers.proofs.standard_flags.StandardFlagsFormSource.arg_count.Goals as goal

pub overflow_add-result : goal.overflow_add-result
overflow_add-result g c =
    let s = c.args.self.now.inner in
    omega (arith, fitting_few (g.K.FormSource.form s), (g.K.FormSource.fits s).args, c.arg_count.ensures, c.flag_count.ensures)

pub returns : goal.returns
returns g c =
    let s = c.args.self.now.inner in
    omega (arith, flags_arg_count (g.K.FormSource.form s) (g.K.FormSource.fits s).args, c.arg_count.ensures, c.flag_count.ensures)
