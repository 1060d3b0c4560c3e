use Rattle.std.proofs.Common.{◌≡◌, drop}
use Rattle.std.specs.List.{slice_get}
use Rattle.form.specs.Keys.{keys_from, keys_of}
use Rattle.keys.proofs.walk.key_at.Given as goal

-- the key that is sought, among those of the arguments to come
abbrev pub invariant-loop-place : goal.invariant-loop-place
invariant-loop-place g l =
    let f = g.F.FormSource.form l.form in
    slice_get (keys_from l.place (drop l.place f.args)) l.rest ≡ slice_get (keys_of f) l.i
