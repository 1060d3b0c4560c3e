-- Ranges as Rust writes them.
use Rattle.std.specs.Prelude.{ℕ, suc, ◌+◌, cond, ◌&&◌, List, [], ◌∷◌, take, drop, Some, None, Ok, Option, Result, ◌==◌}
use Rattle.std.specs.Option.{option_map}
use Rattle.std.specs.declared.ops.Bound.{Bound}
use Rattle.std.specs.declared.ops.Bound.TheVariants.{Included, Excluded, Unbounded}
use Rattle.form.specs.Model.{Range}
use Rattle.form.specs.Ranges.{fixed, through, to_before, from_on, up_to_before, up_to, all}
use Rattle.form.specs.declared.refusal.RangeFault.{RangeFault}
use Rattle.notation.specs.Numbers.{number}

-- what a text is as a range: none, or a range, or a refusal of one
abbrev pub Reading : Type 0
Reading = Option (Result Range RangeFault)

-- the place of the first two dots in a row, counting from p
unfoldable pub dots_from : ℕ → List ℕ → Option ℕ
dots_from p [] = None
dots_from p (a ∷ []) = None
dots_from p (a ∷ (b ∷ cs)) = cond (a == 46 && b == 46) (Some p) (dots_from (suc p) (b ∷ cs))

abbrev pub dots : List ℕ → Option ℕ
dots s = dots_from 0 s

-- after the dots comes nothing, or `=` and a number that is included, or a number that is not
abbrev pub end_of : List ℕ → Option (Bound ℕ)
end_of [] = Some Unbounded
end_of (c ∷ cs) = cond (c == 61) (option_map Included (number cs)) (option_map Excluded (number (c ∷ cs)))

-- before the dots comes nothing, or a number
abbrev pub start_of : List ℕ → Option (Option ℕ)
start_of [] = Some None
start_of (c ∷ cs) = option_map Some (number (c ∷ cs))

-- a start and an end make a range
abbrev pub ranged : Option ℕ → Bound ℕ → Result Range RangeFault
ranged (Some a) Unbounded = Ok (from_on a)
ranged (Some a) (Excluded b) = to_before a b
ranged (Some a) (Included b) = through a b
ranged None Unbounded = Ok all
ranged None (Excluded b) = Ok (up_to_before b)
ranged None (Included b) = Ok (up_to b)

abbrev pub both : Option (Option ℕ) → Option (Bound ℕ) → Reading
both None e = None
both (Some s) None = None
both (Some s) (Some e) = Some (ranged s e)

-- a number alone
abbrev pub alone : Option ℕ → Reading
alone None = None
alone (Some n) = Some (Ok (fixed n))

abbrev pub split_at : List ℕ → Option ℕ → Reading
split_at s None = alone (number s)
split_at s (Some i) = both (start_of (take i s)) (end_of (drop (i + 2) s))

-- a text as a range
abbrev pub range_written : List ℕ → Reading
range_written s = split_at s (dots s)
