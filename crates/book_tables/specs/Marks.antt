-- Marks in a table.
use Rattle.std.specs.Prelude.{ℕ, ◌+◌, Bool, ◌&&◌, List, [], ◌∷◌, nat_le}

-- from low on, ascending, and all below top
unfoldable pub climbing : ℕ → List ℕ → ℕ → Bool
climbing low [] top = nat_le low top
climbing low (m ∷ ms) top = nat_le low m && climbing (m + 1) ms top
