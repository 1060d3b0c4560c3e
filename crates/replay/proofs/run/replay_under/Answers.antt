use Rattle.std.proofs.Common.{map}
use Rattle.calls.specs.Called.{called}
use Rattle.calls.specs.Law.{Exact, MarksRise, AllListed, Sound}
use Rattle.calls.proofs.Exactness.{exact_law}
use Rattle.replay.specs.Under.{under}
use Rattle.replay.proofs.Laws.{lawful}
use Rattle.replay.proofs.run.replay_under.Goals as goal

pub returns : goal.returns
returns c =
    let cs = map called c.args.calls.now in
    let told = c.run.ensures in
    record {
      exact = lawful (Exact (under c.args.layers) cs) _ _ told (exact_law (under c.args.layers) cs).exact;
      marks = lawful MarksRise _ _ told (exact_law (under c.args.layers) cs).marks;
      lists = lawful (AllListed (under c.args.layers) cs) _ _ told (exact_law (under c.args.layers) cs).lists;
      sound = lawful (Sound (under c.args.layers) cs) _ _ told (exact_law (under c.args.layers) cs).sound;
    }
