use Rattle.std.proofs.Common.{◌-◌, Some, None, ap, ◌∙◌, arith}
use Rattle.layers.specs.Named.{flag_arg}
use Rattle.form.specs.Shown.{arg_record}
use Rattle.layers.proofs.Places.{own_arg, arg_at}
use Rattle.layers.proofs.standard_flags.StandardFlagsFormSource.arg.Goals as goal

pub returns-then-place-own : goal.returns-then-place-own
returns-then-place-own g c =
    let s = c.args.self.now.inner in
    c.arg.ensures ∙ ap arg_record (own_arg (g.K.FormSource.form s) c.args.place (g.K.FormSource.fits s).args (omega (arith, c.arg_count-own.ensures)))

pub returns-in-Some : goal.returns-in-Some
returns-in-Some g c =
    let s = c.args.self.now.inner in
    let f = g.K.FormSource.form s in
    c.view.ensures ∙ ap arg_record (arg_at f c.args.place (c.args.place - c.arg_count-own.result) (Some (flag_arg c.in-Some.flag)) (g.K.FormSource.fits s).args (omega (arith, c.arg_count-own.ensures)) c.in-Some.ensures)

pub returns-in-None : goal.returns-in-None
returns-in-None g c =
    let s = c.args.self.now.inner in
    let f = g.K.FormSource.form s in
    c.new.ensures ∙ ap arg_record (arg_at f c.args.place (c.args.place - c.arg_count-own.result) None (g.K.FormSource.fits s).args (omega (arith, c.arg_count-own.ensures)) c.in-None.ensures)
