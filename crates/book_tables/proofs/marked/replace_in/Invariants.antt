use Rattle.std.proofs.Common.{◌≡◌, ◌++◌, map, take, drop}
use Rattle.book_tables.specs.Steps.{with_under}
use Rattle.book_tables.proofs.marked.replace_in.Given as goal

-- the entries so far are gone over, and those to come are as they were
abbrev pub invariant-loop-entry : goal.invariant-loop-entry
invariant-loop-entry g l =
    l.entries ≡ map (with_under l.mark l.of) (take l.entry-index l.initial.entries) ++ drop l.entry-index l.initial.entries
