use Rattle.std.proofs.Common.{map}
use Rattle.calls.specs.Runs.{plain}
use Rattle.calls.specs.Called.{called}
use Rattle.calls.specs.Law.{Exact, MarksRise, AllListed, Sound, Stable, StableMissing}
use Rattle.calls.proofs.Exactness.{exact_law}
use Rattle.calls.proofs.Stability.{stable_law}
use Rattle.replay.proofs.Laws.{lawful}
use Rattle.replay.proofs.run.replay.Goals as goal

pub returns : goal.returns
returns c =
    let cs = map called c.args.calls.now in
    let told = c.run.ensures in
    record {
      exact = lawful (Exact plain cs) _ _ told (exact_law plain cs).exact;
      marks = lawful MarksRise _ _ told (exact_law plain cs).marks;
      lists = lawful (AllListed plain cs) _ _ told (exact_law plain cs).lists;
      stable = lawful (Stable cs) _ _ told (stable_law cs).0;
      missing = lawful (StableMissing cs) _ _ told (stable_law cs).1;
      sound = lawful (Sound plain cs) _ _ told (exact_law plain cs).sound;
    }
