-- Ranges of values, as the documentation of ValueRange describes them.
use Rattle.std.specs.Prelude.{◌≡◌, ℕ, ◌-◌, ◌<◌, ◌≤◌, Bool, cond, not, ◌||◌, List, ◌++◌, Some, None, Ok, Err, codes, decimal, Option, Result, ◌==◌, nat_lt}
use Rattle.form.specs.Model.{Range}
use Rattle.form.specs.declared.refusal.RangeFault.{RangeFault}
use Rattle.form.specs.declared.refusal.RangeFault.TheVariants.{LeastAboveMost}

-- the most of a range with no upper end: the largest number of 64 bits
abbrev pub unbounded : ℕ
unbounded = 18446744073709551615

-- from a through b; refused where a is above b
abbrev pub through : ℕ → ℕ → Result Range RangeFault
through a b = cond (nat_lt b a) (Err LeastAboveMost) (Ok (record { least = a; most = b }))

-- from a to before b: through b - 1, and through 0 where b is 0
abbrev pub to_before : ℕ → ℕ → Result Range RangeFault
to_before a b = through a (b - 1)

-- just n
abbrev pub fixed : ℕ → Range
fixed n = record { least = n; most = n }

-- from a on
abbrev pub from_on : ℕ → Range
from_on a = record { least = a; most = unbounded }

-- to before b, from 0
abbrev pub up_to_before : ℕ → Range
up_to_before b = record { least = 0; most = b - 1 }

-- through b, from 0
abbrev pub up_to : ℕ → Range
up_to b = record { least = 0; most = b }

-- any number
abbrev pub all : Range
all = record { least = 0; most = unbounded }

-- What a range says of an argument.
-- it takes values at all
abbrev pub takes_values : Range → Bool
takes_values r = nat_lt 0 r.most

-- it takes one number of values only
abbrev pub is_fixed : Range → Bool
is_fixed r = r.least == r.most

-- it takes more than one value, or may
abbrev pub is_multiple : Range → Bool
is_multiple r = not (r.least == r.most) || nat_lt 1 r.least

-- it has no upper end
abbrev pub is_unbounded : Range → Bool
is_unbounded r = r.most == unbounded

-- the number of values, where it is fixed
abbrev pub fixed_number : Range → Option ℕ
fixed_number r = cond (is_fixed r) (Some r.least) None

-- after n values it takes another
abbrev pub accepts_more : Range → ℕ → Bool
accepts_more r n = nat_lt n r.most

-- how it is written: the number where it is fixed, else as a range of Rust
abbrev pub range_text : Range → List ℕ
range_text r =
    cond (is_fixed r) (decimal r.least)
    (cond (is_unbounded r) (decimal r.least ++ codes "..") (decimal r.least ++ (codes "..=" ++ decimal r.most)))

-- The same in terms of the numbers of values that the range accepts.
-- n values are accepted
abbrev pub Accepts : Range → ℕ → Type 0
Accepts r n = (r.least ≤ n) × (n ≤ r.most)

-- n is the fewest values accepted
pub record Fewest (r : Range) (n : ℕ) : Type 0 where
  pub is : Accepts r n
  pub none_below : (m : ℕ) → Accepts r m → n ≤ m

-- n is the most values accepted
pub record Greatest (r : Range) (n : ℕ) : Type 0 where
  pub is : Accepts r n
  pub none_above : (m : ℕ) → Accepts r m → m ≤ n

-- more than n values are accepted
abbrev pub MoreThan : Range → ℕ → Type 0
MoreThan r n = (m : ℕ) × Accepts r m × (n < m)

-- n values are accepted, and no other number
abbrev pub Only : Range → ℕ → Type 0
Only r n = Accepts r n × ((m : ℕ) → Accepts r m → m ≡ n)
