-- The laws over breaches and their lists. A function of src/laws.rt has each for its contract, so that each is proved.
use Rattle.std.specs.Prelude.{◌≡◌, ℕ, ◌<◌, Bool, true, false, List, Some, None, Option}
use Rattle.form.specs.Model.{Arg, Form}
use Rattle.form.specs.Model as model
use Rattle.form.specs.declared.lists.EntryKind.{EntryKind}
use Rattle.form.specs.declared.lists.EntryKind.TheVariants.{Argument, Group, Subcommand}
use Rattle.rules.specs.declared.rule.Rule.{Rule}
use Rattle.rules.specs.declared.rule.Rule.TheVariants.{PropagateWithoutVersion, VersionActionWithoutVersion, LongFlagDash, ConflictsWithItself, TooManyValues, IndexWithFlag, IndexZero, IndexWithoutValue, PositionalWithoutIndex, RangeUnset, EqualsWithMany, SettingWithoutValue, MulticallArgument, LongNameDash, SameId, SameLongName, SameLetter, SameIndex, RequiresItself, RequiredConditionally, MissingReference, LastWithLong, LastWithLetter, RequiredGlobal, SameGroupId, GroupIdOfArgument, MissingMember, MissingGroupRequirement, MissingGroupConflict, SameLongFlag, SameLetterFlag, SubcommandNameTaken, SubcommandAliasTaken, PositionsWithGaps, TrailingLast, TrailingNotMultiple, TrailingElsewhere, OpenBeforeOptional, MultipleElsewhere, TooManyMultiple, OptionalBeforeRequired, TwoLast, RequiredLastWithSubcommands, MulticallWithoutBinaryName, FormCut}
use Rattle.rules.specs.declared.breach.Entry.{Entry}
use Rattle.rules.specs.declared.breach.Breach.{Breach}
use Rattle.rules.specs.Order.{Stands}
use Rattle.rules.specs.Breaks.{Breaks}
use Rattle.rules.specs.Rank.{Lists}
use Rattle.rules.specs.Report.{breaches}

-- What is computed as the report of a form lists its breaches: every one of the page, nothing else, in the order of their ranks.
abbrev pub ReportLists : Type 0
ReportLists = (f : Form) → Lists f (breaches f)

-- A form has one list of its breaches: any two that list them are equal.
abbrev pub OneList : Type 0
OneList = (f : Form) (bs cs : List Breach) → Lists f bs → Lists f cs → bs ≡ cs

-- What a rule looks at: the entry that its breach names, the two entries, an entry and whether a name is missing, or the form.
pub data Class : Type 0 where
  own pair missing of_form : Class

abbrev pub class : Rule → Class
class PropagateWithoutVersion = of_form
class VersionActionWithoutVersion = of_form
class LongFlagDash = own
class ConflictsWithItself = own
class TooManyValues = own
class IndexWithFlag = own
class IndexZero = own
class IndexWithoutValue = own
class PositionalWithoutIndex = own
class RangeUnset = own
class EqualsWithMany = own
class SettingWithoutValue = own
class MulticallArgument = of_form
class LongNameDash = own
class SameId = pair
class SameLongName = pair
class SameLetter = pair
class SameIndex = pair
class RequiresItself = own
class RequiredConditionally = own
class MissingReference = missing
class LastWithLong = own
class LastWithLetter = own
class RequiredGlobal = own
class SameGroupId = pair
class GroupIdOfArgument = pair
class MissingMember = missing
class MissingGroupRequirement = missing
class MissingGroupConflict = missing
class SameLongFlag = pair
class SameLetterFlag = pair
class SubcommandNameTaken = pair
class SubcommandAliasTaken = pair
class PositionsWithGaps = of_form
class TrailingLast = of_form
class TrailingNotMultiple = of_form
class TrailingElsewhere = of_form
class OpenBeforeOptional = of_form
class MultipleElsewhere = of_form
class TooManyMultiple = of_form
class OptionalBeforeRequired = of_form
class TwoLast = pair
class RequiredLastWithSubcommands = of_form
class MulticallWithoutBinaryName = of_form
class FormCut = of_form

-- a rule of which a breach depends on the entries that it names, and on nothing else
abbrev pub local : Class → Bool
local own = true
local pair = true
local missing = false
local of_form = false

-- Entries stand at other places, as after a strike: `to` has the new place of what stood at a place of each table. The breach with its entries told so:
abbrev pub move : (EntryKind → ℕ → ℕ) → Option Entry → Option Entry
move to None = None
move to (Some e) = Some (record { kind = e.kind; place = to e.kind e.place })

abbrev pub moved : (EntryKind → ℕ → ℕ) → Breach → Breach
moved to b = record { rule = b.rule; first = move to b.first; second = move to b.second; list = b.list; item = b.item; other = b.other }

-- g has at the new place what f has at the place
abbrev pub MovedAt : Form → Form → (EntryKind → ℕ → ℕ) → EntryKind → ℕ → Type 0
MovedAt f g to Argument p = (a : Arg) → Stands f.args p a → Stands g.args (to Argument p) a
MovedAt f g to Group p = (h : model.Group) → Stands f.groups p h → Stands g.groups (to Group p) h
MovedAt f g to Subcommand p = (s : model.Subcommand) → Stands f.subcommands p s → Stands g.subcommands (to Subcommand p) s

abbrev pub Moved : Form → Form → (EntryKind → ℕ → ℕ) → Option Entry → Type 0
Moved f g to None = Unit {0}
Moved f g to (Some e) = MovedAt f g to e.kind e.place

-- of two entries of one table, the later stays behind the earlier
abbrev pub InOrder : (EntryKind → ℕ → ℕ) → Option Entry → Option Entry → Type 0
InOrder to None e = Unit {0}
InOrder to (Some d) None = Unit {0}
InOrder to (Some d) (Some e) = d.kind ≡ e.kind → (d.place < e.place → to d.kind d.place < to d.kind e.place) × (e.place < d.place → to d.kind e.place < to d.kind d.place)

-- A breach of an own or a pair rule goes with its entries: it is, at the places where they then stand, a breach of every form that holds them in the same order, whatever else that form holds.
abbrev pub MovedLaw : Type 0
MovedLaw = (f g : Form) (to : EntryKind → ℕ → ℕ) (b : Breach) → local (class b.rule) ≡ true → Moved f g to b.first → Moved f g to b.second → InOrder to b.first b.second → Breaks f b → Breaks g (moved to b)
