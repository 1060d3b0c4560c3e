use Rattle.std.proofs.Common.{rules, ap, ◌≡◌, ◌∙◌}
use Rattle.std.specs.Option.{option_map}
use Rattle.form.specs.Shown.{shown_key}
use Rattle.book.specs.KeyRows.{key_held}
use Rattle.book.specs.Books.{key_shown}
use Rattle.book.proofs.source.BuiltBookKeyed.key.Goals as goal

pub returns : goal.returns
returns c =
    let e : option_map shown_key c.map.result ≡ option_map key_held (option_map (λ x. x.now) c.get.result) = search rules in
    e ∙ ap (option_map key_held) c.get.ensures ∙ key_shown c.args.self.now c.args.i
