use Rattle.std.proofs.Common.{◌≡◌, ◌++◌, length, take}
use Rattle.std.specs.Option.{option_map}
use Rattle.form.specs.HeldBytes.{held_bytes}
use Rattle.script.specs.Spelling.{spelled}
use Rattle.script.proofs.spelling.read_name.Given as goal

abbrev pub invariant-loop-rest : goal.invariant-loop-rest
invariant-loop-rest l = option_map (λ xs. take 33 (held_bytes l.name ++ xs)) (spelled l.rest) ≡ option_map (take 33) (spelled l.text)

abbrev pub decreases-loop-rest : goal.decreases-loop-rest
decreases-loop-rest l = length l.rest
