-- Words between spaces, and comments.
use Rattle.std.specs.Prelude.{ℕ, Bool, not, ◌||◌, List, drop, ◌==◌}
use Rattle.std.specs.List.{position_or_len, before_first}

-- a space, a tab or a carriage return
abbrev pub blank : ℕ → Bool
blank c = c == 32 || (c == 9 || c == 13)

-- the text from its first word on, which begins at the first byte that is not blank
abbrev pub unindented : List ℕ → List ℕ
unindented s = drop (position_or_len (λ c. not (blank c)) s) s

-- the first word; empty where there is none
abbrev pub word_of : List ℕ → List ℕ
word_of s = before_first blank (unindented s)

-- what follows the first word
abbrev pub behind : List ℕ → List ℕ
behind s = drop (position_or_len blank (unindented s)) (unindented s)

-- what stands before the first # (code 35)
abbrev pub uncommented : List ℕ → List ℕ
uncommented s = before_first (λ c. c == 35) s
