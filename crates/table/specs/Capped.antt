-- A count that stops at the largest number of 64 bits.
use Rattle.std.specs.Prelude.{ℕ, min}

abbrev pub capped : ℕ → ℕ
capped n = min n 18446744073709551615
