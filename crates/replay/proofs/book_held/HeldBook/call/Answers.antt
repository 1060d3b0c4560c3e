use Rattle.std.proofs.Common.{◌≡◌, IfOk, sym, subst}
use Rattle.calls.specs.Runs.{answer}
use Rattle.calls.specs.Called.{called}
use Rattle.replay.specs.Said.{said}
use Rattle.replay.specs.Under.{under}
use Rattle.replay.specs.Worlds.{world}
use Rattle.replay.proofs.book_held.HeldBook.call.Goals as goal

pub returns-in-Built-clause-answer : goal.returns-in-Built-clause-answer
returns-in-Built-clause-answer c = subst (λ w. IfOk c.call_built.result.1 (λ a. said a ≡ answer (under c.args.layers) (world w) (called c.args.call))) (sym c.in-Built.is) c.call_built.ensures.answer
