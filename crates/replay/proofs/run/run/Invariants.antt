use Rattle.std.proofs.Common.{◌≡◌, ◌++◌, map, drop, vec_items}
use Rattle.calls.specs.Runs.{start, answers}
use Rattle.calls.specs.Called.{called}
use Rattle.replay.specs.Said.{said}
use Rattle.replay.specs.Under.{under}
use Rattle.replay.specs.Worlds.{world}
use Rattle.replay.proofs.run.run.Given as goal

abbrev pub invariant-loop-call : goal.invariant-loop-call
invariant-loop-call l = map said (vec_items l.told) ++ answers (under l.layers) (world l.held) (map called (drop l.call-index l.calls)) ≡ answers (under l.layers) start (map called l.calls)
