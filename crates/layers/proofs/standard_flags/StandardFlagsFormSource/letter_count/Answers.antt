use Rattle.std.proofs.Common.{length, ap, ◌∙◌}
use Rattle.layers.proofs.Places.{letters_kept}
use Rattle.layers.proofs.standard_flags.StandardFlagsFormSource.letter_count.Goals as goal

pub returns : goal.returns
returns g c =
    let s = c.args.self.now.inner in
    c.letter_count.ensures ∙ ap length (letters_kept (g.K.FormSource.form s) c.args.list c.args.place (g.K.FormSource.fits s).args)
