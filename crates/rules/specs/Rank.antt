-- The order of a report, and what it is to list the breaches of a form.
use Rattle.std.specs.Prelude.{ℕ, ◌+◌, ◌-◌, Bool, cond, ◌&&◌, List, [], ◌∷◌, length, Some, None, Option, ◌==◌, nat_le, slice_index_or}
use Rattle.form.specs.Model.{Form, blank_arg}
use Rattle.form.specs.Lists.{list_number}
use Rattle.form.specs.declared.lists.EntryKind.{EntryKind}
use Rattle.form.specs.declared.lists.EntryKind.TheVariants.{Argument, Group, Subcommand}
use Rattle.form.specs.declared.lists.ItemList.{ItemList}
use Rattle.rules.specs.declared.breach.Entry.{Entry}
use Rattle.rules.specs.declared.breach.Breach.{Breach}
use Rattle.rules.specs.Numbers.{rule_number}
use Rattle.rules.specs.Order.{Exactly}
use Rattle.rules.specs.Words.{index_or_0, position_count}
use Rattle.rules.specs.Breaks.{Breaks}

-- Rules 4 to 28 are told argument by argument, 31 to 35 group by group, 38 and 39 together, and 41 to 43 argument by argument: each of these is one section. Any other rule is a section of its own.
abbrev pub section : ℕ → ℕ
section n = cond (nat_le 4 n && nat_le n 28) 4 (cond (nat_le 31 n && nat_le n 35) 31 (cond (nat_le 38 n && nat_le n 39) 38 (cond (nat_le 41 n && nat_le n 43) 41 n)))

-- within an entry the rules follow one another, but 23 to 25 are told together, item by item
abbrev pub phase : ℕ → ℕ
phase n = cond (nat_le 23 n && nat_le n 25) 23 (cond (nat_le 38 n && nat_le n 39) 38 n)

-- the rules on the flags of owners, which stand in one row: the subcommands, then the arguments
abbrev pub on_owners : ℕ → Bool
on_owners n = nat_le 36 n && nat_le n 37

abbrev pub before_arguments : Form → EntryKind → ℕ
before_arguments f Argument = length f.subcommands
before_arguments f Group = 0
before_arguments f Subcommand = 0

-- where an entry stands for the rule
abbrev pub spot : Form → ℕ → Option Entry → ℕ
spot f n None = 0
spot f n (Some e) = cond (on_owners n) (before_arguments f e.kind + e.place) e.place

-- rules 36 to 39 go by the first flag or name, its number included, before the second
abbrev pub early : Breach → ℕ
early b = cond (nat_le 36 (rule_number b.rule) && nat_le (rule_number b.rule) 39) b.item 0

-- rule 47 goes from the highest position down
abbrev pub place_or_0 : Option Entry → ℕ
place_or_0 None = 0
place_or_0 (Some e) = e.place

abbrev pub fall : Form → Breach → ℕ
fall f b = cond (rule_number b.rule == 47) (position_count f - index_or_0 (slice_index_or f.args (place_or_0 b.first) blank_arg).index) 0

abbrev pub list_or_0 : Option ItemList → ℕ
list_or_0 None = 0
list_or_0 (Some l) = list_number l

-- Where a breach stands in a report: the first of these numbers that differs decides.
abbrev pub rank : Form → Breach → List ℕ
rank f b =
    section (rule_number b.rule)
    ∷ fall f b
    ∷ spot f (rule_number b.rule) b.first
    ∷ early b
    ∷ phase (rule_number b.rule)
    ∷ spot f (rule_number b.rule) b.second
    ∷ b.other
    ∷ list_or_0 b.list
    ∷ b.item
    ∷ rule_number b.rule
    ∷ []

-- bs lists the breaches of f: every member is a breach, every breach is a member, ranks ascend strictly, so that each stands exactly once
abbrev pub Lists : Form → List Breach → Type 0
Lists f bs = Exactly (rank f) (Breaks f) bs
