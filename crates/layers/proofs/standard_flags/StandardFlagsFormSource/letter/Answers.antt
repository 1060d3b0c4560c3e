use Rattle.std.proofs.Common.{get_or, ap, ◌∙◌}
use Rattle.layers.proofs.Places.{letters_kept}
use Rattle.layers.proofs.standard_flags.StandardFlagsFormSource.letter.Goals as goal

pub returns : goal.returns
returns g c =
    let s = c.args.self.now.inner in
    c.letter.ensures ∙ ap (λ xs. get_or xs c.args.item 0) (letters_kept (g.K.FormSource.form s) c.args.list c.args.place (g.K.FormSource.fits s).args)
