-- When a form breaks a rule, and what the breach tells: one clause for each rule, in the words of Words.antt.
-- This page shares no condition with what runs.
use Rattle.std.specs.Prelude.{◌≡◌, ℕ, suc, ◌<◌, ◌≤◌, true, false, ◌⊎◌, Some, None, ◌≢◌}
use Rattle.form.specs.Model.{Name, Arg, Group, Subcommand, Form}
use Rattle.form.specs.Actions.{allowed}
use Rattle.form.specs.Settings.{arg_bit}
use Rattle.form.specs.Lists.{list_number, arg_names}
use Rattle.form.specs.declared.action.ArgAction.TheVariants.{Version}
use Rattle.form.specs.declared.lists.ItemList.{ItemList}
use Rattle.form.specs.declared.lists.ItemList.TheVariants.{Requires, Conflicts, Members, GroupRequires, GroupConflicts}
use Rattle.form.specs.declared.arg_settings.ArgSettings.{ArgSettings}
use Rattle.form.specs.declared.arg_settings.ArgSettings.TheVariants.{Required, Global, HidePossibleValues, AllowHyphenValues, AllowNegativeNumbers, RequireEquals, Last, TrailingVarArg, HideDefaultValue, IgnoreCase}
use Rattle.form.specs.declared.app_settings.AppSettings.TheVariants.{Multicall, NoBinaryName, PropagateVersion, SubcommandsNegateReqs, HasVersion}
use Rattle.rules.specs.declared.rule.Rule.TheVariants.{PropagateWithoutVersion, VersionActionWithoutVersion, LongFlagDash, ConflictsWithItself, TooManyValues, IndexWithFlag, IndexZero, IndexWithoutValue, PositionalWithoutIndex, RangeUnset, EqualsWithMany, SettingWithoutValue, MulticallArgument, LongNameDash, SameId, SameLongName, SameLetter, SameIndex, RequiresItself, RequiredConditionally, MissingReference, LastWithLong, LastWithLetter, RequiredGlobal, SameGroupId, GroupIdOfArgument, MissingMember, MissingGroupRequirement, MissingGroupConflict, SameLongFlag, SameLetterFlag, SubcommandNameTaken, SubcommandAliasTaken, PositionsWithGaps, TrailingLast, TrailingNotMultiple, TrailingElsewhere, OpenBeforeOptional, MultipleElsewhere, TooManyMultiple, OptionalBeforeRequired, TwoLast, RequiredLastWithSubcommands, MulticallWithoutBinaryName, FormCut}
use Rattle.rules.specs.declared.breach.Breach.{Breach}
use Rattle.rules.specs.Order.{Stands}
use Rattle.rules.specs.Told.{argument, group, subcommand, of_form, of_one, of_bit, of_item, of_two, of_flags}
use Rattle.rules.specs.Words.{Given, Has, Lacks, FormHas, FormLacks, least, most, Multiple, Positional, Dashed, NoArg, Missing, Owner, owners, Flag, Differ, Called, Earlier, index_or_0, position_count, Highest, FirstAt, Ends, OpenBelow, Wide, WideAt, TwoWide}

-- the settings that only an argument with values may have
pub data OfValues : ArgSettings → Type 0 where
  hide_possible_values : OfValues HidePossibleValues
  allow_hyphen_values : OfValues AllowHyphenValues
  allow_negative_numbers : OfValues AllowNegativeNumbers
  require_equals : OfValues RequireEquals
  last : OfValues Last
  hide_default_value : OfValues HideDefaultValue
  ignore_case : OfValues IgnoreCase

-- b is a breach of f
pub data Breaks (f : Form) : Breach → Type 0 where
  -- the version is to be propagated, and there is none
  rule_1 : FormHas f PropagateVersion → FormLacks f HasVersion → Breaks f (of_form PropagateWithoutVersion)
  -- an argument shows the version, and there is none
  rule_2 : (p : ℕ) (a : Arg) → Stands f.args p a → a.action ≡ Version → FormLacks f HasVersion → Breaks f (of_one VersionActionWithoutVersion (argument p))
  -- a subcommand's long flag begins with a hyphen
  rule_3 : (p : ℕ) (s : Subcommand) (x : Name) → Stands f.subcommands p s → s.long ≡ Some x → Dashed x → Breaks f (of_one LongFlagDash (subcommand p))
  -- an argument conflicts with itself
  rule_4 : (p : ℕ) (a : Arg) (k : ℕ) → Stands f.args p a → Stands a.conflicts k a.id → Breaks f (of_item ConflictsWithItself (argument p) Conflicts k)
  -- it takes more values than its action allows
  rule_5 : (p : ℕ) (a : Arg) → Stands f.args p a → (allowed a.action).most < most a → Breaks f (of_one TooManyValues (argument p))
  -- it has an index, and a letter or a long name
  rule_9 : (p : ℕ) (a : Arg) → Stands f.args p a → Given a.index → Given a.letter ⊎ Given a.long → Breaks f (of_one IndexWithFlag (argument p))
  -- its index is 0: positions start at 1
  rule_10 : (p : ℕ) (a : Arg) → Stands f.args p a → a.index ≡ Some 0 → Breaks f (of_one IndexZero (argument p))
  -- it has an index and takes no value
  rule_11 : (p : ℕ) (a : Arg) → Stands f.args p a → Given a.index → most a ≡ 0 → Breaks f (of_one IndexWithoutValue (argument p))
  -- it is positional and has no index
  rule_12 : (p : ℕ) (a : Arg) → Stands f.args p a → Positional a → a.index ≡ None → Breaks f (of_one PositionalWithoutIndex (argument p))
  -- it has no range
  rule_13 : (p : ℕ) (a : Arg) → Stands f.args p a → a.range ≡ None → Breaks f (of_one RangeUnset (argument p))
  -- it needs more than one value, and an equals sign
  rule_15 : (p : ℕ) (a : Arg) → Stands f.args p a → 1 < least a → Has a RequireEquals → Breaks f (of_one EqualsWithMany (argument p))
  -- it takes no value, and has a setting that is about values: one breach for each, told by its bit
  rule_16 : (p : ℕ) (a : Arg) (s : ArgSettings) → Stands f.args p a → most a ≡ 0 → OfValues s → Has a s → Breaks f (of_bit SettingWithoutValue (argument p) (arg_bit s))
  -- the form is a multicall, and has an argument
  rule_17 : (p : ℕ) (a : Arg) → Stands f.args p a → FormHas f Multicall → Breaks f (of_one MulticallArgument (argument p))
  -- its long name begins with a hyphen
  rule_18 : (p : ℕ) (a : Arg) (x : Name) → Stands f.args p a → a.long ≡ Some x → Dashed x → Breaks f (of_one LongNameDash (argument p))
  -- a later argument has the same id
  rule_19 : (p q : ℕ) (a b : Arg) → p < q → Stands f.args p a → Stands f.args q b → a.id ≡ b.id → Breaks f (of_two SameId (argument p) (argument q))
  -- the same long name
  rule_20 : (p q : ℕ) (a b : Arg) (x : Name) → p < q → Stands f.args p a → Stands f.args q b → a.long ≡ Some x → b.long ≡ Some x → Breaks f (of_two SameLongName (argument p) (argument q))
  -- the same letter
  rule_21 : (p q : ℕ) (a b : Arg) (c : ℕ) → p < q → Stands f.args p a → Stands f.args q b → a.letter ≡ Some c → b.letter ≡ Some c → Breaks f (of_two SameLetter (argument p) (argument q))
  -- the same index, where both are positional
  rule_22 : (p q : ℕ) (a b : Arg) (i : ℕ) → p < q → Stands f.args p a → Stands f.args q b → Positional a → Positional b → a.index ≡ Some i → b.index ≡ Some i → Breaks f (of_two SameIndex (argument p) (argument q))
  -- it requires itself
  rule_23 : (p : ℕ) (a : Arg) (k : ℕ) → Stands f.args p a → Stands a.requires k a.id → Breaks f (of_item RequiresItself (argument p) Requires k)
  -- it is required, and required under a condition: one breach for each item of lists 2 to 5
  rule_24 : (p : ℕ) (a : Arg) (l : ItemList) (k : ℕ) (x : Name) → Stands f.args p a → 2 ≤ list_number l → list_number l ≤ 5 → Stands (arg_names a l) k x → Has a Required → Breaks f (of_item RequiredConditionally (argument p) l k)
  -- an item of lists 1 to 7 is no argument's and no group's id
  rule_25 : (p : ℕ) (a : Arg) (l : ItemList) (k : ℕ) (x : Name) → Stands f.args p a → list_number l ≤ 7 → Stands (arg_names a l) k x → Missing f x → Breaks f (of_item MissingReference (argument p) l k)
  -- it is marked last, and has a long name
  rule_26 : (p : ℕ) (a : Arg) → Stands f.args p a → Has a Last → Given a.long → Breaks f (of_one LastWithLong (argument p))
  -- or a letter
  rule_27 : (p : ℕ) (a : Arg) → Stands f.args p a → Has a Last → Given a.letter → Breaks f (of_one LastWithLetter (argument p))
  -- it is required and global
  rule_28 : (p : ℕ) (a : Arg) → Stands f.args p a → Has a Required → Has a Global → Breaks f (of_one RequiredGlobal (argument p))
  -- a later group has the same id
  rule_31 : (p q : ℕ) (g h : Group) → p < q → Stands f.groups p g → Stands f.groups q h → g.id ≡ h.id → Breaks f (of_two SameGroupId (group p) (group q))
  -- an argument has the group's id
  rule_32 : (p q : ℕ) (g : Group) (a : Arg) → Stands f.groups p g → Stands f.args q a → g.id ≡ a.id → Breaks f (of_two GroupIdOfArgument (group p) (argument q))
  -- a member is no argument's id
  rule_33 : (p : ℕ) (g : Group) (k : ℕ) (x : Name) → Stands f.groups p g → Stands g.members k x → NoArg f x → Breaks f (of_item MissingMember (group p) Members k)
  -- what a group requires is no argument's and no group's id
  rule_34 : (p : ℕ) (g : Group) (k : ℕ) (x : Name) → Stands f.groups p g → Stands g.requires k x → Missing f x → Breaks f (of_item MissingGroupRequirement (group p) GroupRequires k)
  -- nor is what it conflicts with
  rule_35 : (p : ℕ) (g : Group) (k : ℕ) (x : Name) → Stands f.groups p g → Stands g.conflicts k x → Missing f x → Breaks f (of_item MissingGroupConflict (group p) GroupConflicts k)
  -- two owners that differ have the same long flag
  rule_36 : (i j : ℕ) (o w : Owner) (k m : ℕ) (x : Name) → i < j → Stands (owners f) i o → Stands (owners f) j w → Flag o.long o.long_aliases k x → Flag w.long w.long_aliases m x → Differ o w → Breaks f (of_flags SameLongFlag o.entry k w.entry m)
  -- the same letter
  rule_37 : (i j : ℕ) (o w : Owner) (k m c : ℕ) → i < j → Stands (owners f) i o → Stands (owners f) j w → Flag o.letter o.letter_aliases k c → Flag w.letter w.letter_aliases m c → Differ o w → Breaks f (of_flags SameLetterFlag o.entry k w.entry m)
  -- a subcommand's name is an earlier name or alias
  rule_38 : (p q m : ℕ) (x : Name) → Called f p 0 x → Called f q m x → Earlier q m p 0 → Breaks f (of_flags SubcommandNameTaken (subcommand p) 0 (subcommand q) m)
  -- its alias is
  rule_39 : (p k q m : ℕ) (x : Name) → Called f p (suc k) x → Called f q m x → Earlier q m p (suc k) → Breaks f (of_flags SubcommandAliasTaken (subcommand p) (suc k) (subcommand q) m)
  -- the highest position key is not the number of position keys
  rule_40 : (h : ℕ) → Highest f h → (h ≢ position_count f) → Breaks f (of_form PositionsWithGaps)
  -- an argument at the highest position is trailing and last
  rule_41 : (p : ℕ) (a : Arg) (h : ℕ) → Stands f.args p a → Has a TrailingVarArg → Highest f h → index_or_0 a.index ≡ h → Has a Last → Breaks f (of_one TrailingLast (argument p))
  -- trailing, and not multiple
  rule_42 : (p : ℕ) (a : Arg) (h : ℕ) → Stands f.args p a → Has a TrailingVarArg → Highest f h → index_or_0 a.index ≡ h → (Multiple a → ⊥) → Breaks f (of_one TrailingNotMultiple (argument p))
  -- an argument elsewhere is trailing
  rule_43 : (p : ℕ) (a : Arg) (h : ℕ) → Stands f.args p a → Has a TrailingVarArg → Highest f h → (index_or_0 a.index ≢ h) → Breaks f (of_one TrailingElsewhere (argument p))
  -- of the two last positions: the end is neither required nor last, and the one before neither last nor terminated
  rule_44 : (p q : ℕ) (l s : Arg) → Ends f p l q s → Lacks l Required → Lacks l Last → Lacks s Last → s.terminated ≡ false → Breaks f (of_two OpenBeforeOptional (argument p) (argument q))
  -- the end is not last, and the one before is not multiple, or one below it is open
  rule_45 : (p q : ℕ) (l s : Arg) → Ends f p l q s → Lacks l Last → (Multiple s → ⊥) ⊎ OpenBelow f (index_or_0 s.index) → Breaks f (of_two MultipleElsewhere (argument p) (argument q))
  -- more than one is wide, unless just two are, the end is one of them and last, and the one before is multiple
  rule_46 : (p q : ℕ) (l s : Arg) (i j : ℕ) → Ends f p l q s → i < j → WideAt f i → WideAt f j → (TwoWide f × Wide l × Has l Last × Multiple s → ⊥) → Breaks f (of_two TooManyMultiple (argument p) (argument q))
  -- the first argument of a position is not required, and that of a higher one is required and not last
  rule_47 : (n p : ℕ) (a : Arg) (m q : ℕ) (b : Arg) → 1 ≤ n → n < m → m ≤ position_count f → FirstAt f n p a → Lacks a Required → FirstAt f m q b → Has b Required → Lacks b Last → Breaks f (of_one OptionalBeforeRequired (argument p))
  -- two positional arguments are last
  rule_48 : (p q : ℕ) (a b : Arg) → p < q → Stands f.args p a → Stands f.args q b → Positional a → Has a Last → Positional b → Has b Last → Breaks f (of_two TwoLast (argument p) (argument q))
  -- a positional argument is required and last, and there are subcommands that do not lift requirements
  rule_49 : (p : ℕ) (a : Arg) (s : Subcommand) → Stands f.args p a → Positional a → Has a Required → Has a Last → Stands f.subcommands 0 s → FormLacks f SubcommandsNegateReqs → Breaks f (of_one RequiredLastWithSubcommands (argument p))
  -- a multicall has no binary name
  rule_50 : FormHas f Multicall → FormHas f NoBinaryName → Breaks f (of_form MulticallWithoutBinaryName)
  -- something was cut off the form
  rule_51 : f.cut ≡ true → Breaks f (of_form FormCut)
