-- The rules as tables to run: a row has its rule and a test, typed by what the rule may look at.
-- An own test sees its entry, a pair test its two entries, a missing-name row a name and the ids; only a whole test sees the form.
use Rattle.std.specs.Prelude.{ℕ, zero, suc, ◌-◌, max, Bool, false, cond, not, ◌&&◌, ◌||◌, List, [], ◌∷◌, ◌++◌, map, length, is_some, Some, None, filter, Option, ◌==◌, bit_and, nat_eq, nat_le, nat_lt, slice_index_or}
use Rattle.std.specs.List.{range_with_len}
use Rattle.std.specs.Str.{bytes_eq}
use Rattle.form.specs.Model.{Name, Arg, Group, Subcommand, Form, blank_arg}
use Rattle.form.specs.Actions.{action_code, allowed}
use Rattle.form.specs.Settings.{bit, arg_set, app_set}
use Rattle.form.specs.Lists.{list_number}
use Rattle.form.specs.declared.lists.EntryKind.{EntryKind}
use Rattle.form.specs.declared.lists.EntryKind.TheVariants as kind
use Rattle.form.specs.declared.lists.ItemList.{ItemList}
use Rattle.form.specs.declared.lists.ItemList.TheVariants.{Requires, RIfs, RIfsAll, RUnless, RUnlessAll, Conflicts, Overrides, Members, GroupRequires, GroupConflicts}
use Rattle.form.specs.declared.arg_settings.ArgSettings.TheVariants.{Required, Global, RequireEquals, Last, TrailingVarArg}
use Rattle.form.specs.declared.app_settings.AppSettings.TheVariants.{Multicall, NoBinaryName, PropagateVersion, SubcommandsNegateReqs, HasVersion}
use Rattle.rules.specs.declared.rule.Rule.{Rule}
use Rattle.rules.specs.declared.rule.Rule.TheVariants.{PropagateWithoutVersion, VersionActionWithoutVersion, LongFlagDash, ConflictsWithItself, TooManyValues, IndexWithFlag, IndexZero, IndexWithoutValue, PositionalWithoutIndex, RangeUnset, EqualsWithMany, SettingWithoutValue, MulticallArgument, LongNameDash, SameId, SameLongName, SameLetter, SameIndex, RequiresItself, RequiredConditionally, MissingReference, LastWithLong, LastWithLetter, RequiredGlobal, SameGroupId, GroupIdOfArgument, MissingMember, MissingGroupRequirement, MissingGroupConflict, SameLongFlag, SameLetterFlag, PositionsWithGaps, TrailingLast, TrailingNotMultiple, TrailingElsewhere, OpenBeforeOptional, MultipleElsewhere, TooManyMultiple, TwoLast, RequiredLastWithSubcommands, MulticallWithoutBinaryName, FormCut}
use Rattle.rules.specs.Order.{some}
use Rattle.rules.specs.Words.{least, most, Owner, index_or_0, indices, position_count}

-- Tests on one argument.
abbrev pub is_version : Arg → Bool
is_version a = action_code a.action == 8

abbrev pub is_append : Arg → Bool
is_append a = action_code a.action == 1

abbrev pub has_flag : Arg → Bool
has_flag a = is_some a.letter || is_some a.long

abbrev pub positional : Arg → Bool
positional a = not (has_flag a)

abbrev pub open_ended : Arg → Bool
open_ended a = not (least a == most a)

abbrev pub many : Arg → Bool
many a = open_ended a || nat_lt 1 (least a)

abbrev pub multiple : Arg → Bool
multiple a = many a || is_append a

abbrev pub wide : Arg → Bool
wide a = positional a && (many a && (not a.terminated && open_ended a))

abbrev pub is_number : ℕ → Option ℕ → Bool
is_number n None = false
is_number n (Some k) = k == n

abbrev pub begins_dash : Name → Bool
begins_dash [] = false
begins_dash (x ∷ xs) = x == 45

abbrev pub dashed : Option Name → Bool
dashed None = false
dashed (Some x) = begins_dash x

abbrev pub too_many_values : Arg → Bool
too_many_values a = nat_lt (allowed a.action).most (most a)

abbrev pub index_with_flag : Arg → Bool
index_with_flag a = is_some a.index && has_flag a

abbrev pub index_zero : Arg → Bool
index_zero a = is_number 0 a.index

abbrev pub index_without_value : Arg → Bool
index_without_value a = is_some a.index && most a == 0

abbrev pub positional_without_index : Arg → Bool
positional_without_index a = positional a && not (is_some a.index)

abbrev pub range_unset : Arg → Bool
range_unset a = not (is_some a.range)

abbrev pub equals_with_many : Arg → Bool
equals_with_many a = nat_lt 1 (least a) && arg_set a.settings RequireEquals

-- the settings about values: bits 4 to 8, 10 and 11
abbrev pub value_bits : ℕ
value_bits = 3568

abbrev pub setting_without_value : Arg → ℕ → Bool
setting_without_value a k = most a == 0 && bit (bit_and a.settings value_bits) k

abbrev pub long_name_dash : Arg → Bool
long_name_dash a = dashed a.long

abbrev pub last_with_long : Arg → Bool
last_with_long a = arg_set a.settings Last && is_some a.long

abbrev pub last_with_letter : Arg → Bool
last_with_letter a = arg_set a.settings Last && is_some a.letter

abbrev pub required_global : Arg → Bool
required_global a = arg_set a.settings Required && arg_set a.settings Global

abbrev pub positional_last : Arg → Bool
positional_last a = positional a && arg_set a.settings Last

-- Tests on an item of an argument.
abbrev pub names_itself : Arg → Name → Bool
names_itself a x = bytes_eq x a.id

abbrev pub requires_itself : ItemList → Arg → Name → Bool
requires_itself l a x = list_number l == 1 && bytes_eq x a.id

abbrev pub required_conditionally : ItemList → Arg → Name → Bool
required_conditionally l a x = arg_set a.settings Required && (nat_le 2 (list_number l) && nat_le (list_number l) 5)

-- Tests on two entries: both have something, and the same.
abbrev pub same_if : {X : Type 0} → (X → X → Bool) → Option X → Option X → Bool
same_if same None y = false
same_if same (Some x) None = false
same_if same (Some x) (Some y) = same x y

abbrev pub same_id : Arg → Arg → Bool
same_id a b = bytes_eq a.id b.id

abbrev pub same_long_name : Arg → Arg → Bool
same_long_name a b = same_if bytes_eq a.long b.long

abbrev pub same_letter : Arg → Arg → Bool
same_letter a b = same_if nat_eq a.letter b.letter

-- the index of a positional argument
abbrev pub position : Arg → Option ℕ
position a = cond (positional a) a.index None

abbrev pub same_index : Arg → Arg → Bool
same_index a b = same_if nat_eq (position a) (position b)

abbrev pub two_last : Arg → Arg → Bool
two_last a b = positional_last a && positional_last b

abbrev pub same_group_id : Group → Group → Bool
same_group_id g h = bytes_eq g.id h.id

abbrev pub id_of_argument : Group → Arg → Bool
id_of_argument g a = bytes_eq g.id a.id

-- flags in their order, the owner's own first, if it has one
abbrev pub flags : {X : Type 0} → Option X → List X → List (Option X)
flags own aliases = own ∷ map (λ x. Some x) aliases

abbrev pub kind_code : EntryKind → ℕ
kind_code kind.Argument = 0
kind_code kind.Group = 1
kind_code kind.Subcommand = 2

abbrev pub differ : Owner → Owner → Bool
differ x y = not (kind_code x.entry.kind == kind_code y.entry.kind && bytes_eq x.id y.id)

abbrev pub earlier : ℕ → ℕ → ℕ → ℕ → Bool
earlier q m p k = nat_lt q p || (q == p && nat_lt m k)

-- The ids, and whether a name is among them.
abbrev pub arg_ids : Form → List Name
arg_ids f = map (λ a. a.id) f.args

abbrev pub ids : Form → List Name
ids f = arg_ids f ++ map (λ g. g.id) f.groups

abbrev pub missing : List Name → Name → Bool
missing known x = not (some (bytes_eq x) known)

-- Tests on the form.
abbrev pub no_version : Form → Bool
no_version f = not (app_set f.settings HasVersion)

abbrev pub propagate_without_version : Form → Bool
propagate_without_version f = app_set f.settings PropagateVersion && no_version f

abbrev pub version_without_version : Form → Arg → Bool
version_without_version f a = is_version a && no_version f

abbrev pub multicall_argument : Form → Arg → Bool
multicall_argument f a = app_set f.settings Multicall

-- the highest of the numbers, 0 where there is none
abbrev pub top : List ℕ → ℕ
top [] = 0
top (n ∷ ns) = max n (top ns)

abbrev pub highest : Form → ℕ
highest f = top (indices f.args)

abbrev pub positions_with_gaps : Form → Bool
positions_with_gaps f = not (highest f == position_count f)

abbrev pub at_highest : Form → Arg → Bool
at_highest f a = index_or_0 a.index == highest f

abbrev pub trailing_last : Form → Arg → Bool
trailing_last f a = arg_set a.settings TrailingVarArg && (at_highest f a && arg_set a.settings Last)

abbrev pub trailing_not_multiple : Form → Arg → Bool
trailing_not_multiple f a = arg_set a.settings TrailingVarArg && (at_highest f a && not (multiple a))

abbrev pub trailing_elsewhere : Form → Arg → Bool
trailing_elsewhere f a = arg_set a.settings TrailingVarArg && not (at_highest f a)

abbrev pub required_last : Form → Arg → Bool
required_last f a = (positional_last a && arg_set a.settings Required) && (nat_lt 0 (length f.subcommands) && not (app_set f.settings SubcommandsNegateReqs))

abbrev pub multicall_without_name : Form → Bool
multicall_without_name f = app_set f.settings Multicall && app_set f.settings NoBinaryName

-- the place of the first argument of the position n, counting from p, if there is one
abbrev pub first_at : ℕ → ℕ → List Arg → Option ℕ
first_at n p [] = None
first_at n p (a ∷ l) = cond (is_number n a.index) (Some p) (first_at n (suc p) l)

abbrev pub arg_of : Form → ℕ → Arg
arg_of f p = slice_index_or f.args p blank_arg

-- a multiple positional argument stands elsewhere than at the highest position
abbrev pub multiple_elsewhere : Form → Bool
multiple_elsewhere f = some (λ a. positional a && (multiple a && not (at_highest f a))) f.args

-- the places of the first arguments of the highest position and of the one before, where rules 44 to 46 look at them
abbrev pub both_ends : Option ℕ → Option ℕ → List (ℕ × ℕ)
both_ends None q = []
both_ends (Some p) None = []
both_ends (Some p) (Some q) = (p, q) ∷ []

abbrev pub ends_at : ℕ → List Arg → List (ℕ × ℕ)
ends_at zero l = []
ends_at (suc n) l = both_ends (first_at (suc n) 0 l) (first_at n 0 l)

abbrev pub ends : Form → List (ℕ × ℕ)
ends f = cond (multiple_elsewhere f) (ends_at (highest f) f.args) []

-- tests on the form and its two ends, L and S
abbrev pub open_before_optional : Form → Arg → Arg → Bool
open_before_optional f l s = (not (arg_set l.settings Required) && not (arg_set l.settings Last)) && (not (arg_set s.settings Last) && not s.terminated)

abbrev pub open_below : Form → ℕ → Bool
open_below f n = some (λ a. positional a && (nat_lt (index_or_0 a.index) n && (not a.terminated && open_ended a))) f.args

abbrev pub multiple_low : Form → Arg → Arg → Bool
multiple_low f l s = not (arg_set l.settings Last) && (not (multiple s) || open_below f (index_or_0 s.index))

abbrev pub wide_count : Form → ℕ
wide_count f = length (filter wide f.args)

abbrev pub too_many_wide : Form → Arg → Arg → Bool
too_many_wide f l s = nat_lt 1 (wide_count f) && not (wide_count f == 2 && (wide l && (arg_set l.settings Last && multiple s)))

-- the first argument of a position from n + 1 to n + k is required and not last
abbrev pub settled : Form → ℕ → Bool
settled f m = settles (first_at m 0 f.args)
  where
    settles : Option ℕ → Bool
    settles None = false
    settles (Some q) = arg_set (arg_of f q).settings Required && not (arg_set (arg_of f q).settings Last)

abbrev pub settled_above : Form → ℕ → Bool
settled_above f n = some (settled f) (range_with_len (suc n) (position_count f - n))

-- The rows. On an item of lists 1 to 7 of an argument:
pub data ItemRow : Type 0 where
  own_item : Rule → (ItemList → Arg → Name → Bool) → ItemRow
  missing_item : Rule → ItemRow

-- on an argument:
pub data ArgRow : Type 0 where
  own : Rule → (Arg → Bool) → ArgRow
  own_conflict : Rule → (Arg → Name → Bool) → ArgRow
  own_bit : Rule → (Arg → ℕ → Bool) → ArgRow
  later : Rule → (Arg → Arg → Bool) → ArgRow
  items : List ItemRow → ArgRow
  whole : Rule → (Form → Arg → Bool) → ArgRow

-- on a group:
pub data GroupRow : Type 0 where
  later_group : Rule → (Group → Group → Bool) → GroupRow
  with_argument : Rule → (Group → Arg → Bool) → GroupRow
  missing_name : Rule → ItemList → (Group → List Name) → (Form → List Name) → GroupRow

-- and the sections of a report: rows by argument and by group, and the rules that have shapes of their own
pub data Section : Type 0 where
  of_the_form : Rule → (Form → Bool) → Section
  by_argument : ℕ → List ArgRow → Section
  by_subcommand : Rule → (Subcommand → Bool) → Section
  by_group : ℕ → List GroupRow → Section
  by_long_flag : Rule → Section
  by_letter_flag : Rule → Section
  by_subcommand_name : Section
  at_ends : Rule → (Form → Arg → Arg → Bool) → Section
  by_position : Section

-- the lists of references of an argument
abbrev pub reference_lists : List (ItemList × (Arg → List Name))
reference_lists =
    (Requires, λ a. a.requires)
    ∷ (RIfs, λ a. a.r_ifs)
    ∷ (RIfsAll, λ a. a.r_ifs_all)
    ∷ (RUnless, λ a. a.r_unless)
    ∷ (RUnlessAll, λ a. a.r_unless_all)
    ∷ (Conflicts, λ a. a.conflicts)
    ∷ (Overrides, λ a. a.overrides)
    ∷ []

abbrev pub item_rows : List ItemRow
item_rows = own_item RequiresItself requires_itself ∷ own_item RequiredConditionally required_conditionally ∷ missing_item MissingReference ∷ []

abbrev pub arg_rows : List ArgRow
arg_rows =
    own_conflict ConflictsWithItself names_itself
    ∷ own TooManyValues too_many_values
    ∷ own IndexWithFlag index_with_flag
    ∷ own IndexZero index_zero
    ∷ own IndexWithoutValue index_without_value
    ∷ own PositionalWithoutIndex positional_without_index
    ∷ own RangeUnset range_unset
    ∷ own EqualsWithMany equals_with_many
    ∷ own_bit SettingWithoutValue setting_without_value
    ∷ whole MulticallArgument multicall_argument
    ∷ own LongNameDash long_name_dash
    ∷ later SameId same_id
    ∷ later SameLongName same_long_name
    ∷ later SameLetter same_letter
    ∷ later SameIndex same_index
    ∷ items item_rows
    ∷ own LastWithLong last_with_long
    ∷ own LastWithLetter last_with_letter
    ∷ own RequiredGlobal required_global
    ∷ []

abbrev pub group_rows : List GroupRow
group_rows =
    later_group SameGroupId same_group_id
    ∷ with_argument GroupIdOfArgument id_of_argument
    ∷ missing_name MissingMember Members (λ g. g.members) arg_ids
    ∷ missing_name MissingGroupRequirement GroupRequires (λ g. g.requires) ids
    ∷ missing_name MissingGroupConflict GroupConflicts (λ g. g.conflicts) ids
    ∷ []

abbrev pub trailing_rows : List ArgRow
trailing_rows = whole TrailingLast trailing_last ∷ whole TrailingNotMultiple trailing_not_multiple ∷ whole TrailingElsewhere trailing_elsewhere ∷ []

-- the sections in the order of a report
abbrev pub sections : List Section
sections =
    of_the_form PropagateWithoutVersion propagate_without_version
    ∷ by_argument 2 (whole VersionActionWithoutVersion version_without_version ∷ [])
    ∷ by_subcommand LongFlagDash (λ s. dashed s.long)
    ∷ by_argument 4 arg_rows
    ∷ by_group 31 group_rows
    ∷ by_long_flag SameLongFlag
    ∷ by_letter_flag SameLetterFlag
    ∷ by_subcommand_name
    ∷ of_the_form PositionsWithGaps positions_with_gaps
    ∷ by_argument 41 trailing_rows
    ∷ at_ends OpenBeforeOptional open_before_optional
    ∷ at_ends MultipleElsewhere multiple_low
    ∷ at_ends TooManyMultiple too_many_wide
    ∷ by_position
    ∷ by_argument 48 (later TwoLast two_last ∷ [])
    ∷ by_argument 49 (whole RequiredLastWithSubcommands required_last ∷ [])
    ∷ of_the_form MulticallWithoutBinaryName multicall_without_name
    ∷ of_the_form FormCut (λ f. f.cut)
    ∷ []
