-- The rows of a report on an argument, in the parts in which the survey offers them.
use Rattle.std.specs.Prelude.{ℕ, List, [], ◌∷◌, ◌++◌}
use Rattle.form.specs.Model.{Name, Arg, Form}
use Rattle.form.specs.Lists.{names_at}
use Rattle.form.specs.declared.lists.ItemList.{ItemList}
use Rattle.form.specs.declared.lists.ItemList.TheVariants.{Requires, RIfs, RIfsAll, RUnless, RUnlessAll, Conflicts, Overrides}
use Rattle.rules.specs.declared.rule.Rule.TheVariants.{ConflictsWithItself, TooManyValues, IndexWithFlag, IndexZero, IndexWithoutValue, PositionalWithoutIndex, RangeUnset, EqualsWithMany, SettingWithoutValue, MulticallArgument, LongNameDash, SameId, SameLongName, SameLetter, SameIndex, LastWithLong, LastWithLetter, RequiredGlobal}
use Rattle.rules.specs.declared.breach.Breach.{Breach}
use Rattle.rules.specs.Order.{blocks}
use Rattle.rules.specs.Rows.{ArgRow, own, own_conflict, own_bit, later, whole, arg_of, names_itself, too_many_values, index_with_flag, index_zero, index_without_value, positional_without_index, range_unset, equals_with_many, setting_without_value, multicall_argument, long_name_dash, same_id, same_long_name, same_letter, same_index, last_with_long, last_with_letter, required_global, item_rows}
use Rattle.rules.specs.Report.{arg_report, item_report}

-- what the rows tell of the argument at the place
abbrev pub rows_told : Form → ℕ → List ArgRow → List Breach
rows_told f p rows = blocks (λ _ r. arg_report f p (arg_of f p) r) 0 rows

abbrev pub conflict_rows : List ArgRow
conflict_rows = own_conflict ConflictsWithItself names_itself ∷ []

abbrev pub value_rows : List ArgRow
value_rows =
    own TooManyValues too_many_values
    ∷ own IndexWithFlag index_with_flag
    ∷ own IndexZero index_zero
    ∷ own IndexWithoutValue index_without_value
    ∷ own PositionalWithoutIndex positional_without_index
    ∷ own RangeUnset range_unset
    ∷ own EqualsWithMany equals_with_many
    ∷ []

abbrev pub bit_rows : List ArgRow
bit_rows = own_bit SettingWithoutValue setting_without_value ∷ []

abbrev pub name_rows : List ArgRow
name_rows = whole MulticallArgument multicall_argument ∷ own LongNameDash long_name_dash ∷ []

abbrev pub twin_rows : List ArgRow
twin_rows = later SameId same_id ∷ later SameLongName same_long_name ∷ later SameLetter same_letter ∷ later SameIndex same_index ∷ []

-- all that stand before the rows on items
abbrev pub before_rows : List ArgRow
before_rows = conflict_rows ++ (value_rows ++ (bit_rows ++ (name_rows ++ twin_rows)))

-- those that stand after them
abbrev pub after_rows : List ArgRow
after_rows = own LastWithLong last_with_long ∷ own LastWithLetter last_with_letter ∷ own RequiredGlobal required_global ∷ []

-- what the rows on items tell of item k, x, of the list l of the argument a at p
abbrev pub item_told : Form → ℕ → Arg → ItemList → ℕ → Name → List Breach
item_told f p a l k x = blocks (λ _ r. item_report f p a l k x r) 0 item_rows

-- the lists of references of an argument
abbrev pub references : List ItemList
references = Requires ∷ RIfs ∷ RIfsAll ∷ RUnless ∷ RUnlessAll ∷ Conflicts ∷ Overrides ∷ []

-- what the rows on items tell of a list of the argument at p
abbrev pub list_told : Form → ℕ → ItemList → List Breach
list_told f p l = blocks (λ k x. item_told f p (arg_of f p) l k x) 0 (names_at f l p)
