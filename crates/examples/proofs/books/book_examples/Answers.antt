use Rattle.std.proofs.Common.{refl, arith, length, le-ltb}
use borrow.Author.Tests.{lt-leb}
use Rattle.calls.specs.Calls.{without}
use Rattle.examples.proofs.Strikes.{shorter}
use Rattle.examples.proofs.books.book_examples.Goals as goal

pub returns : goal.returns
returns c = record {
  full = λ m r e n l. rw (n, l, e);
  number = refl;
  room = λ m r k e b h n l. rw (b, n, l, lt-leb 64 (length (without k m.args)) (omega (arith, e, shorter k m.args b)), le-ltb 60000 m.next h);
  just = λ m x e g h. rw (e, lt-leb 16 (length m.groups) (omega (arith, g)), le-ltb 60000 m.next h);
  long = λ m x e. rw e;
}
