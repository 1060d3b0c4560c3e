use Rattle.std.proofs.Common.{length, ap, ◌∙◌}
use Rattle.layers.proofs.Places.{names_kept}
use Rattle.layers.proofs.standard_flags.StandardFlagsFormSource.name_count.Goals as goal

pub returns : goal.returns
returns g c =
    let s = c.args.self.now.inner in
    c.name_count.ensures ∙ ap length (names_kept (g.K.FormSource.form s) c.args.list c.args.place (g.K.FormSource.fits s).args)
