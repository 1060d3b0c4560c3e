-- The actions: their codes, and how many values each allows.
use Rattle.std.specs.Prelude.{ℕ, cond, Some, None, Option, ◌==◌}
use Rattle.form.specs.Model.{Range}
use Rattle.form.specs.Ranges.{unbounded}
use Rattle.form.specs.declared.action.ArgAction.{ArgAction}
use Rattle.form.specs.declared.action.ArgAction.TheVariants.{Set, Append, SetTrue, SetFalse, Count, Help, HelpShort, HelpLong, Version}

-- the code of an action
abbrev pub action_code : ArgAction → ℕ
action_code Set = 0
action_code Append = 1
action_code SetTrue = 2
action_code SetFalse = 3
action_code Count = 4
action_code Help = 5
action_code HelpShort = 6
action_code HelpLong = 7
action_code Version = 8

-- the action that has the code, where there is one
abbrev pub action_coded : ℕ → Option ArgAction
action_coded n =
    cond (n == 0) (Some Set)
    (cond (n == 1) (Some Append)
    (cond (n == 2) (Some SetTrue)
    (cond (n == 3) (Some SetFalse)
    (cond (n == 4) (Some Count)
    (cond (n == 5) (Some Help)
    (cond (n == 6) (Some HelpShort)
    (cond (n == 7) (Some HelpLong)
    (cond (n == 8) (Some Version) None))))))))

-- the range of numbers of values that an action allows at the widest
abbrev pub allowed : ArgAction → Range
allowed Set = record { least = 0; most = unbounded }
allowed Append = record { least = 0; most = unbounded }
allowed SetTrue = record { least = 0; most = 1 }
allowed SetFalse = record { least = 0; most = 1 }
allowed Count = record { least = 0; most = 0 }
allowed Help = record { least = 0; most = 0 }
allowed HelpShort = record { least = 0; most = 0 }
allowed HelpLong = record { least = 0; most = 0 }
allowed Version = record { least = 0; most = 0 }

-- the range that an action has by default
abbrev pub default_range : ArgAction → Range
default_range Set = record { least = 1; most = 1 }
default_range Append = record { least = 1; most = 1 }
default_range SetTrue = record { least = 0; most = 0 }
default_range SetFalse = record { least = 0; most = 0 }
default_range Count = record { least = 0; most = 0 }
default_range Help = record { least = 0; most = 0 }
default_range HelpShort = record { least = 0; most = 0 }
default_range HelpLong = record { least = 0; most = 0 }
default_range Version = record { least = 0; most = 0 }
