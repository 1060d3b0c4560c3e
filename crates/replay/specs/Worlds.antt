-- What the book of a run means.
use Rattle.std.specs.Prelude.{true, false}
use Rattle.calls.specs.Runs.{World}
use Rattle.book.specs.Books.{open_marked, built_marked}
use Rattle.book.specs.declared.states.OpenBook.{OpenBook}
use Rattle.book.specs.declared.states.BuiltBook.{BuiltBook}
use Rattle.replay.specs.declared.book_held.HeldBook.{HeldBook}
use Rattle.replay.specs.declared.book_held.HeldBook.TheVariants.{Open, Built}

abbrev pub open_world : OpenBook → World
open_world b = record { built = false; book = open_marked b }

abbrev pub built_world : BuiltBook → World
built_world b = record { built = true; book = built_marked b }

abbrev pub world : HeldBook → World
world (Open b) = open_world b
world (Built b) = built_world b
