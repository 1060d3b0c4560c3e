-- Lines of text, which end at a line feed or at the end of the text.
use Rattle.std.specs.Prelude.{◌≡◌, ℕ, cond, ◌⊎◌, List, [], ◌∷◌, ◌++◌, ◌==◌, ◌≢◌, slice_index}

-- no line feed stands in the text
abbrev pub NoFeed : List ℕ → Type 0
NoFeed s = (k : ℕ) → slice_index s k ≢ 10

-- the first line of the text, and what follows it
pub record Split (s line rest : List ℕ) : Type 0 where
  pub whole : NoFeed line
  pub parts : (s ≡ line ++ (10 ∷ rest)) ⊎ ((s ≡ line) × (rest ≡ []))

-- a byte before the first line of the others
abbrev pub onto : ℕ → List (List ℕ) → List (List ℕ)
onto c [] = (c ∷ []) ∷ []
onto c (l ∷ ls) = (c ∷ l) ∷ ls

-- the lines of a text, in order; an empty text has none
abbrev pub lines_of : List ℕ → List (List ℕ)
lines_of [] = []
lines_of (c ∷ cs) = cond (c == 10) ([] ∷ lines_of cs) (onto c (lines_of cs))
