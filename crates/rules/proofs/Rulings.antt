-- The test of a rule's row decides the condition of its clause on the page: a lemma for each rule of which the test has parts.
-- The other rules go by lemmas of Decided.antt and Coded.antt, or of the library, as they stand: 3 and 18 by dashed_decides, 4, 19, 31 and 32 by bytes_eq-Decides, 20 to 22 by long_decides, letter_decides and index_decides,
-- 25 and 33 to 35 by missing_decides and no_arg_decides, 36 to 39 by differ_decides and earlier_decides; of 17 and 51 the test is the condition. The bits of 16 are told by bit_found and found_bit.
use Rattle.std.proofs.Common.{◌≡◌, ℕ, suc, ◌<◌, ◌≤◌, true, false, not, ◌&&◌, ltb, ◌⊎◌, List, [], ◌∷◌, length, Some, None, Decides, refl, arith}
use lib.Bits.{bit_and}
use Rattle.std.proofs.lemmas.Slice.Eq.{bytes_eq-Decides}
use Rattle.form.specs.Model.{Name, Arg, Subcommand, Form}
use Rattle.form.specs.Actions.{allowed}
use Rattle.form.specs.Settings.{bit, arg_set, app_set}
use Rattle.form.specs.Lists.{list_number}
use Rattle.form.specs.declared.action.ArgAction.TheVariants.{Version}
use Rattle.form.specs.declared.lists.ItemList.{ItemList}
use Rattle.form.specs.declared.lists.ItemList.TheVariants.{Requires}
use Rattle.form.specs.declared.arg_settings.ArgSettings.TheVariants.{Required, Global, RequireEquals, Last, TrailingVarArg}
use Rattle.form.specs.declared.app_settings.AppSettings.TheVariants.{Multicall, NoBinaryName, PropagateVersion, SubcommandsNegateReqs, HasVersion}
use Rattle.rules.specs.Order.{Stands}
use Rattle.rules.specs.Words.{Given, Has, Lacks, FormHas, FormLacks, least, most, Multiple, Positional, index_or_0, position_count, OpenBelow, Wide, TwoWide}
use Rattle.rules.specs.Rows.{propagate_without_version, version_without_version, too_many_values, index_with_flag, index_zero, index_without_value, positional_without_index, range_unset, equals_with_many, value_bits, setting_without_value, last_with_long, last_with_letter, required_global, requires_itself, required_conditionally, positional_last, two_last, highest, positions_with_gaps, trailing_last, trailing_not_multiple, trailing_elsewhere, open_before_optional, multiple_low, too_many_wide, settled_above, required_last, multicall_without_name}
use Rattle.rules.proofs.Spots.{nothing}
use Rattle.rules.proofs.Firsts.{number_decides}
use Rattle.rules.proofs.Deciding.{decides_like, on, off, both, either, neither, equal, less, at_most, given, none}
use Rattle.rules.proofs.Coded.{same_list}
use Rattle.rules.proofs.Decided.{version_decides, flag_decides, positional_decides, multiple_decides, wide_decides}
use Rattle.rules.proofs.Positions.{at_highest_decides, open_below_decides, Settled, settled_above_decides}
use Rattle.rules.proofs.Wides.{MoreWide, more_wide_decides, two_wide_decides}

-- the form
pub decides_1 : (f : Form) → Decides (propagate_without_version f) (FormHas f PropagateVersion × FormLacks f HasVersion)
decides_1 f = both (on (app_set f.settings PropagateVersion)) (off (app_set f.settings HasVersion))

pub decides_2 : (f : Form) (a : Arg) → Decides (version_without_version f a) ((a.action ≡ Version) × FormLacks f HasVersion)
decides_2 f a = both (version_decides a) (off (app_set f.settings HasVersion))

pub decides_50 : (f : Form) → Decides (multicall_without_name f) (FormHas f Multicall × FormHas f NoBinaryName)
decides_50 f = both (on (app_set f.settings Multicall)) (on (app_set f.settings NoBinaryName))

-- one argument
pub decides_5 : (a : Arg) → Decides (too_many_values a) ((allowed a.action).most < most a)
decides_5 a = less (allowed a.action).most (most a)

pub decides_9 : (a : Arg) → Decides (index_with_flag a) (Given a.index × (Given a.letter ⊎ Given a.long))
decides_9 a = both (given a.index) (flag_decides a)

pub decides_10 : (a : Arg) → Decides (index_zero a) (a.index ≡ Some 0)
decides_10 a = number_decides 0 a.index

pub decides_11 : (a : Arg) → Decides (index_without_value a) (Given a.index × (most a ≡ 0))
decides_11 a = both (given a.index) (equal (most a) 0)

pub decides_12 : (a : Arg) → Decides (positional_without_index a) (Positional a × (a.index ≡ None))
decides_12 a = both (positional_decides a) (none a.index)

pub decides_13 : (a : Arg) → Decides (range_unset a) (a.range ≡ None)
decides_13 a = none a.range

pub decides_15 : (a : Arg) → Decides (equals_with_many a) ((1 < least a) × Has a RequireEquals)
decides_15 a = both (less 1 (least a)) (on (arg_set a.settings RequireEquals))

pub decides_26 : (a : Arg) → Decides (last_with_long a) (Has a Last × Given a.long)
decides_26 a = both (on (arg_set a.settings Last)) (given a.long)

pub decides_27 : (a : Arg) → Decides (last_with_letter a) (Has a Last × Given a.letter)
decides_27 a = both (on (arg_set a.settings Last)) (given a.letter)

pub decides_28 : (a : Arg) → Decides (required_global a) (Has a Required × Has a Global)
decides_28 a = both (on (arg_set a.settings Required)) (on (arg_set a.settings Global))

-- and one of its settings
pub decides_16 : (a : Arg) (k : ℕ) → Decides (setting_without_value a k) ((most a ≡ 0) × (bit (bit_and a.settings value_bits) k ≡ true))
decides_16 a k = both (equal (most a) 0) (on (bit (bit_and a.settings value_bits) k))

-- an item
pub decides_23 : (l : ItemList) (a : Arg) (x : Name) → Decides (requires_itself l a x) ((l ≡ Requires) × (x ≡ a.id))
decides_23 l a x = both (same_list l Requires) (bytes_eq-Decides x a.id)

pub decides_24 : (l : ItemList) (a : Arg) (x : Name) → Decides (required_conditionally l a x) (Has a Required × ((2 ≤ list_number l) × (list_number l ≤ 5)))
decides_24 l a x = both (on (arg_set a.settings Required)) (both (at_most 2 (list_number l)) (at_most (list_number l) 5))

-- two arguments
last_decides : (a : Arg) → Decides (positional_last a) (Positional a × Has a Last)
last_decides a = both (positional_decides a) (on (arg_set a.settings Last))

pub decides_48 : (a b : Arg) → Decides (two_last a b) ((Positional a × Has a Last) × (Positional b × Has b Last))
decides_48 a b = both (last_decides a) (last_decides b)

-- positions
pub decides_40 : (f : Form) → Decides (positions_with_gaps f) (highest f ≡ position_count f → ⊥)
decides_40 f = neither (equal (highest f) (position_count f))

pub decides_41 : (f : Form) (a : Arg) → Decides (trailing_last f a) (Has a TrailingVarArg × ((index_or_0 a.index ≡ highest f) × Has a Last))
decides_41 f a = both (on (arg_set a.settings TrailingVarArg)) (both (at_highest_decides f a) (on (arg_set a.settings Last)))

pub decides_42 : (f : Form) (a : Arg) → Decides (trailing_not_multiple f a) (Has a TrailingVarArg × ((index_or_0 a.index ≡ highest f) × (Multiple a → ⊥)))
decides_42 f a = both (on (arg_set a.settings TrailingVarArg)) (both (at_highest_decides f a) (neither (multiple_decides a)))

pub decides_43 : (f : Form) (a : Arg) → Decides (trailing_elsewhere f a) (Has a TrailingVarArg × (index_or_0 a.index ≡ highest f → ⊥))
decides_43 f a = both (on (arg_set a.settings TrailingVarArg)) (neither (at_highest_decides f a))

pub decides_44 : (f : Form) (l s : Arg) → Decides (open_before_optional f l s) ((Lacks l Required × Lacks l Last) × (Lacks s Last × (s.terminated ≡ false)))
decides_44 f l s = both (both (off (arg_set l.settings Required)) (off (arg_set l.settings Last))) (both (off (arg_set s.settings Last)) (off s.terminated))

pub decides_45 : (f : Form) (l s : Arg) → Decides (multiple_low f l s) (Lacks l Last × ((Multiple s → ⊥) ⊎ OpenBelow f (index_or_0 s.index)))
decides_45 f l s = both (off (arg_set l.settings Last)) (either (neither (multiple_decides s)) (open_below_decides f (index_or_0 s.index)))

pub decides_46 : (f : Form) (l s : Arg) → Decides (too_many_wide f l s) (MoreWide f × (TwoWide f × Wide l × Has l Last × Multiple s → ⊥))
decides_46 f l s = both (more_wide_decides f) (neither (decides_like (λ (t, (w, (h, m))). (t, w, h, m)) (λ (t, w, h, m). (t, (w, (h, m))))
    (both (two_wide_decides f) (both (wide_decides l) (both (on (arg_set l.settings Last)) (multiple_decides s))))))

pub decides_47 : (f : Form) (n : ℕ) (a : Arg) → Decides (not (arg_set a.settings Required) && settled_above f n) (Lacks a Required × ((m : ℕ) × (n < m) × (m ≤ position_count f) × Settled f m))
decides_47 f n a = both (off (arg_set a.settings Required)) (settled_above_decides f n)

not_empty : {X : Type 0} (l : List X) → Decides (ltb 0 (length l)) ((x : X) × Stands l 0 x)
not_empty [] = (λ h. absurd (let k = (less 0 0).0 h in omega arith), λ (x, s). nothing x s)
not_empty (x ∷ l) = (λ h. (x, refl), λ _. (less 0 (suc (length l))).1 (omega arith))

pub decides_49 : (f : Form) (a : Arg) → Decides (required_last f a) (((Positional a × Has a Last) × Has a Required) × (((s : Subcommand) × Stands f.subcommands 0 s) × FormLacks f SubcommandsNegateReqs))
decides_49 f a = both (both (last_decides a) (on (arg_set a.settings Required))) (both (not_empty f.subcommands) (off (app_set f.settings SubcommandsNegateReqs)))
