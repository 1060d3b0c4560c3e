use Rattle.std.proofs.Common.{◌+◌, ◌-◌, ◌/◌, length, Some, ap, ◌∙◌, arith}
use Rattle.std.specs.Option.{option_map}
use Rattle.form.specs.Shown.{key_name, shown_key}
use Rattle.layers.proofs.FlagKeys.{own_key, flag_letter_key, flag_long_key, no_flag_key}
use Rattle.layers.proofs.standard_flags.StandardFlagsKeyed.key.Goals as goal
use Rattle.layers.proofs.standard_flags.StandardFlagsKeyed.key.Goals.{then-i-own-eq0, else-i-own-eq0}

pub returns-then-i-own : goal.returns-then-i-own
returns-then-i-own g c =
    let s = c.args.self.now.inner in
    c.key.ensures ∙ own_key (g.K.FormSource.form s) c.args.i (g.K.FormSource.fits s).args (omega (arith, c.key_count-own.ensures))

pub returns-in_err-flag : goal.returns-in_err-flag
returns-in_err-flag g c =
    let s = c.args.self.now.inner in
    let n = (c.args.i - c.key_count-own.result) / 2 in
    ap (option_map shown_key) c.from_residual.ensures ∙ no_flag_key (g.K.FormSource.form s) c.args.i n (g.K.FormSource.fits s).args (omega (arith, c.key_count-own.ensures)) c.in_err-flag.ensures

pub returns : goal.returns
returns g c =
    let s = c.args.self.now.inner in
    let f = g.K.FormSource.form s in
    let few = (g.K.FormSource.fits s).args in
    let i = c.args.i in
    let n = (i - c.key_count-own.result) / 2 in
    let x = c.in_ok-flag.flag in
    ap (λ q. Some (record { name = key_name c.if-i-own-eq0.name; place = q + n })) c.arg_count.ensures ∙ elim c.if-i-own-eq0.branch [
      | then-i-own-eq0 w ↦
          ap (λ k. Some (record { name = key_name k; place = length f.args + n })) w.name-is
          ∙ flag_letter_key f i n w.letter.result x few (omega (arith, c.key_count-own.ensures, w.if-i-own-eq0.true)) c.in_ok-flag.ensures w.letter.ensures
      | else-i-own-eq0 w ↦
          ap (λ k. Some (record { name = key_name k; place = length f.args + n })) w.name-is
          ∙ flag_long_key f i n w.name.result.now x few (omega (arith, c.key_count-own.ensures, w.if-i-own-eq0.false)) c.in_ok-flag.ensures w.name.ensures
    ]
