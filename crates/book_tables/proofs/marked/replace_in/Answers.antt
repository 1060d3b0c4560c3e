use Rattle.book_tables.proofs.Marks.{replace_here, replace_other}
use Rattle.book_tables.proofs.marked.replace_in.Goals as goal
use Rattle.book_tables.proofs.marked.replace_in.Goals.{then-entry-mark, else-entry-mark}

pub loop-entry-preserved : goal.loop-entry-preserved
loop-entry-preserved g c =
    let xs = c.args.entries.now in
    let ys = c.loop-entry.entries in
    elim c.if-entry-mark.branch [
      | then-entry-mark w ↦ rw w.entries-is (replace_here c.args.mark c.args.of xs ys c.loop-entry.entry-index c.entry-item.result c.loop-entry-test.true c.entry-item.is w.if-entry-mark.true c.loop-entry.invariant)
      | else-entry-mark w ↦ rw w.entries-is (replace_other c.args.mark c.args.of xs ys c.loop-entry.entry-index c.entry-item.result c.loop-entry-test.true c.entry-item.is w.if-entry-mark.false c.loop-entry.invariant)
    ]
