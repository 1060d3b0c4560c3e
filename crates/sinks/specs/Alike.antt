-- What a row tells of its places.
use Rattle.std.specs.Prelude.{ℕ, List, drop}
use Rattle.std.specs.List.{range_with_len}
use Rattle.rules.specs.Order.{blocks}
use Rattle.rules.specs.declared.breach.Breach.{Breach}

-- what is told of each place from one to before another
abbrev pub between : (ℕ → List Breach) → ℕ → ℕ → List Breach
between t from to = blocks (λ j _. t j) from (drop from (range_with_len 0 to))
