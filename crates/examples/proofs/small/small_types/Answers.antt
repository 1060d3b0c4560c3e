use Rattle.std.proofs.Common.{refl}
use Rattle.examples.proofs.small.small_types.Goals as goal

pub returns : goal.returns
returns c = record { zero = refl; five = refl; order = refl; just = λ s e. rw e; long = λ s e. rw e; none = refl; bytes = refl }
