use Rattle.std.proofs.Common.{ap}
use Rattle.calls.specs.Runs.{mark_or}
use Rattle.replay.proofs.Makes.{enter_made}
use Rattle.replay.proofs.change.enter.Goals as goal

pub returns-clause-answer : goal.returns-clause-answer
returns-clause-answer c = rw (enter_made _ _ c.in_ok-make.ensures) (ap mark_or c.enter.ensures.answer)

pub returns-clause-after : goal.returns-clause-after
returns-clause-after c = rw (enter_made _ _ c.in_ok-make.ensures) c.enter.ensures.after
