use Rattle.std.proofs.Common.{◌-◌, length, get_or, Some, sym, ap, ◌∙◌, arith}
use Rattle.form.specs.Model.{blank_arg}
use Rattle.form.specs.Keys.{letter, long}
use Rattle.keys.specs.KeysAt.{own_names}
use Rattle.keys.proofs.ArgKeys.{past_none, letter_alias_at, long_alias_at}
use Rattle.keys.proofs.walk.arg_key.Goals as goal

pub returns-then-n-letters : goal.returns-then-n-letters
returns-then-n-letters g c =
    let f = g.F.FormSource.form c.args.form.now in
    let a = get_or f.args c.args.place blank_arg in
    let e = sym (ap (λ r. r.index) c.arg-arg.ensures) ∙ c.in_default.is in
    let past = past_none _ c.args.n c.in_default-own_key.ensures in
    let same = ap (λ r. length (own_names r.letter r.long)) c.arg-arg.ensures in
    ap (λ x. Some (letter x)) c.letter.ensures
    ∙ letter_alias_at a c.args.n (c.args.n - c.own_key_count.result) e (omega (arith, past, same, c.own_key_count.ensures)) (omega (arith, c.letter_count-letters.ensures))

pub returns : goal.returns
returns g c =
    let f = g.F.FormSource.form c.args.form.now in
    let a = get_or f.args c.args.place blank_arg in
    let e = sym (ap (λ r. r.index) c.arg-arg.ensures) ∙ c.in_default.is in
    let past = past_none _ c.args.n c.in_default-own_key.ensures in
    let same = ap (λ r. length (own_names r.letter r.long)) c.arg-arg.ensures in
    ap (λ x. Some (long x)) c.name.ensures
    ∙ long_alias_at a c.args.n (c.args.n - c.own_key_count.result - c.letter_count-letters.result) e c.requires (omega (arith, past, same, c.own_key_count.ensures, c.letter_count-letters.ensures))
