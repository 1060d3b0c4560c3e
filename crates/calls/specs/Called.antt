-- What the calls of the code stand for. Names are held as N; `name` says what these stand for.
use Rattle.std.specs.Prelude.{ℕ, Bool, true, cond, List, Some, None, Option, nat_le}
use Rattle.std.specs.Borrow.{Bor}
use Rattle.form.specs.Model.{Name, Range}
use Rattle.form.specs.Shown.{ArgRecord}
use Rattle.calls.specs.Calls.{RecordOf}
use Rattle.calls.specs.Runs.{SoughtOf, by_position, by_letter, by_long, CallOf, enter, alter, unmade, strike, attach, set, build, reopen, report, first, find}
use Rattle.calls.specs.Given.{arg_told, record_told, item_told}
use Rattle.calls.specs.declared.records.ArgRecord.{ArgRecord as ArgIn}
use Rattle.calls.specs.declared.records.Record.{Record}
use Rattle.calls.specs.declared.records.Record.TheVariants.{Argument, Group, Subcommand}
use Rattle.calls.specs.declared.call.Bounds.{Bounds}
use Rattle.calls.specs.declared.call.Sought.{Sought}
use Rattle.calls.specs.declared.call.Sought.TheVariants.{Position, Letter, Long}
use Rattle.calls.specs.declared.call.Call.{Call}
use Rattle.calls.specs.declared.call.Call.TheVariants.{Enter, Alter, Unmade, Strike, Attach, Set, Build, Reopen, Report, First, Find}

-- the range that is given
abbrev pub range_of : Bounds → Range
range_of b = record { least = b.least; most = b.most }

-- the range of a record can be made, or there is none
abbrev pub ordered : Option Bounds → Bool
ordered None = true
ordered (Some b) = nat_le b.least b.most

abbrev pub can_make : {N : Type 0} → Record N Bounds → Bool
can_make (Argument r) = ordered r.range
can_make (Group x) = true
can_make (Subcommand r) = true

abbrev pub sought_by : {N : Type 0} → (N → Name) → Sought N → SoughtOf
sought_by name (Position n) = by_position n
sought_by name (Letter c) = by_letter c
sought_by name (Long x) = by_long (name x)

-- an enter or alter whose range cannot be made is one that was not made
abbrev pub enter_by : {N : Type 0} → (N → Name) → Record N Bounds → CallOf
enter_by name r = cond (can_make r) (enter (record_told name range_of r)) unmade

abbrev pub alter_by : {N : Type 0} → (N → Name) → ℕ → Record N Bounds → CallOf
alter_by name k r = cond (can_make r) (alter k (record_told name range_of r)) unmade

-- the call
abbrev pub called_by : {N : Type 0} → (N → Name) → Call N → CallOf
called_by name (Enter r) = enter_by name r
called_by name (Alter k r) = alter_by name k r
called_by name Unmade = unmade
called_by name (Strike k) = strike k
called_by name (Attach k l x) = attach k l (item_told name x)
called_by name (Set s) = set s
called_by name Build = build
called_by name Reopen = reopen
called_by name (Report room) = report room
called_by name First = first
called_by name (Find s) = find (sought_by name s)

-- where a name is a slice of bytes
abbrev pub arg_called : ArgIn (Bor (List ℕ)) Bounds → ArgRecord
arg_called r = arg_told (λ x. x.now) range_of r

abbrev pub record_called : Record (Bor (List ℕ)) Bounds → RecordOf
record_called r = record_told (λ x. x.now) range_of r

abbrev pub sought : Sought (Bor (List ℕ)) → SoughtOf
sought s = sought_by (λ x. x.now) s

abbrev pub enter_call : Record (Bor (List ℕ)) Bounds → CallOf
enter_call r = enter_by (λ x. x.now) r

abbrev pub alter_call : ℕ → Record (Bor (List ℕ)) Bounds → CallOf
alter_call k r = alter_by (λ x. x.now) k r

abbrev pub called : Call (Bor (List ℕ)) → CallOf
called c = called_by (λ x. x.now) c
