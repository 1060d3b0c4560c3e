use Rattle.std.proofs.Common.{◌≡◌, ◌+◌, length, drop}
use Rattle.form.specs.Keys.{keys_from, keys_of}
use Rattle.keys.proofs.walk.count_keys.Given as goal

-- what is counted, and the keys of the arguments to come
abbrev pub invariant-loop-place : goal.invariant-loop-place
invariant-loop-place g l =
    let f = g.F.FormSource.form l.form in
    l.count + length (keys_from l.place (drop l.place f.args)) ≡ length (keys_of f)
