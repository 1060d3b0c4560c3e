use Rattle.std.proofs.Common.{◌≡◌, drop}
use Rattle.form.specs.Keys.{keys_of, first_key}
use Rattle.find.proofs.search.find.Given as goal

abbrev pub invariant-loop-i : goal.invariant-loop-i
invariant-loop-i g l =
    let ks = keys_of (g.F.FormSource.form l.form) in
    let s = g.K.KeyKind.key l.sought in
    first_key s ks ≡ first_key s (drop l.i ks)
