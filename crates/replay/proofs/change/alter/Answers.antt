use Rattle.std.proofs.Common.{ap}
use Rattle.calls.specs.Runs.{done_or}
use Rattle.replay.proofs.Makes.{alter_made}
use Rattle.replay.proofs.change.alter.Goals as goal

pub returns-clause-answer : goal.returns-clause-answer
returns-clause-answer c = rw (alter_made _ _ _ c.in_ok-make.ensures) (ap done_or c.alter.ensures.answer)

pub returns-clause-after : goal.returns-clause-after
returns-clause-after c = rw (alter_made _ _ _ c.in_ok-make.ensures) c.alter.ensures.after
