-- The lines that are still to come.
use Rattle.std.specs.Prelude.{ℕ, List}
use Rattle.notation.specs.declared.lines.Lines.{Lines}
use Rattle.notation.specs.Lines.{lines_of}

abbrev pub lines_left : Lines → List (List ℕ)
lines_left s = lines_of s.rest.now
