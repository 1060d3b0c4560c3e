use Rattle.std.proofs.Common.{vec_items}
use Rattle.replay.specs.Under.{under}
use Rattle.replay.specs.Worlds.{world}
use Rattle.replay.proofs.Runs.{run_more, run_all}
use Rattle.replay.proofs.run.run.Goals as goal

pub loop-call-preserved : goal.loop-call-preserved
loop-call-preserved c =
    run_more (under c.args.layers) (world c.loop-call.held) (world c.call-next.result.0) c.args.calls.now c.loop-call.call-index _ (vec_items c.loop-call.told) _ _ c.in_ok-answer.field-0 c.call-next.result.1 c.loop-call-test.true c.call-next.ensures.answer c.in_ok-answer.was c.call-next.ensures.after c.in_ok-push.ensures.items c.loop-call.invariant

pub returns : goal.returns
returns c = run_all (under c.args.layers) (world c.loop-call.held) c.args.calls.now c.loop-call.call-index (vec_items c.loop-call.told) _ c.loop-call-test.false c.loop-call.invariant
