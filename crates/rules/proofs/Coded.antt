-- What is told by numbers: actions, kinds of entry and lists by theirs, the settings about values by the mask's bits, the lists of references by 1 to 7.
use Rattle.std.proofs.Common.{◌≡◌, ℕ, zero, suc, ◌/◌, ◌%◌, ◌^◌, ◌≤◌, true, false, eqb, List, Some, Decides, sym, refl, ap, ◌∙◌, subst, arith}
use lib.Bits.{bit_and}
use Rattle.std.specs.List.{range_with_len}
use Rattle.std.proofs.lemmas.Nat.{and_shr, and_mod, and_mask, and_comm}
use Rattle.std.proofs.lemmas.Bool.{both_ways}
use Rattle.form.specs.Model.{Name, Arg}
use Rattle.form.specs.Actions.{action_code, action_coded}
use Rattle.form.specs.Settings.{bit, arg_bit, arg_set}
use Rattle.form.specs.Lists.{list_number, list_numbered, arg_names}
use Rattle.form.specs.declared.action.ArgAction.{ArgAction}
use Rattle.form.specs.declared.action.ArgAction.TheVariants.{Set, Append, SetTrue, SetFalse, Count, Help, HelpShort, HelpLong, Version}
use Rattle.form.specs.declared.lists.EntryKind.{EntryKind}
use Rattle.form.specs.declared.lists.EntryKind.TheVariants as kind
use Rattle.form.specs.declared.lists.ItemList.{ItemList}
use Rattle.form.specs.declared.lists.ItemList.TheVariants.{Requires, RIfs, RIfsAll, RUnless, RUnlessAll, Conflicts, Overrides, LongAliases, LetterAliases, Members, GroupRequires, GroupConflicts, SubcommandAliases, LongFlagAliases, LetterFlagAliases}
use Rattle.form.specs.declared.arg_settings.ArgSettings.{ArgSettings}
use Rattle.form.specs.declared.arg_settings.ArgSettings.TheVariants.{HidePossibleValues, AllowHyphenValues, AllowNegativeNumbers, RequireEquals, Last, HideDefaultValue, IgnoreCase}
use Rattle.rules.specs.Order.{Stands}
use Rattle.rules.specs.Breaks.{OfValues, hide_possible_values, allow_hyphen_values, allow_negative_numbers, require_equals, last, hide_default_value, ignore_case}
use Rattle.rules.specs.Rows.{kind_code, value_bits, reference_lists}
use Rattle.rules.proofs.Spots.{Every, end, ◌⨾◌, EveryStands}
use Rattle.rules.proofs.Deciding.{decides_like, equal, counting_stands}

-- actions, kinds and lists are told by their numbers
coded : (x : ArgAction) → action_coded (action_code x) ≡ Some x
coded Set = refl
coded Append = refl
coded SetTrue = refl
coded SetFalse = refl
coded Count = refl
coded Help = refl
coded HelpShort = refl
coded HelpLong = refl
coded Version = refl

pub same_action : (x y : ArgAction) → Decides (eqb (action_code x) (action_code y)) (x ≡ y)
same_action x y = decides_like
    (λ e. let p = coded x in let q = coded y in let r : action_coded (action_code x) ≡ action_coded (action_code y) = ap action_coded e in cc)
    (λ e. ap action_code e) (equal (action_code x) (action_code y))

kind_coded : ℕ → EntryKind
kind_coded zero = kind.Argument
kind_coded (suc zero) = kind.Group
kind_coded (suc (suc n)) = kind.Subcommand

kinds : (x : EntryKind) → kind_coded (kind_code x) ≡ x
unfolding kind_coded
kinds kind.Argument = refl
kinds kind.Group = refl
kinds kind.Subcommand = refl

pub same_kind : (x y : EntryKind) → Decides (eqb (kind_code x) (kind_code y)) (x ≡ y)
same_kind x y = decides_like (λ e. sym (kinds x) ∙ ap kind_coded e ∙ kinds y) (λ e. ap kind_code e) (equal (kind_code x) (kind_code y))

numbered : (l : ItemList) → list_numbered (list_number l) ≡ Some l
numbered Requires = refl
numbered RIfs = refl
numbered RIfsAll = refl
numbered RUnless = refl
numbered RUnlessAll = refl
numbered Conflicts = refl
numbered Overrides = refl
numbered LongAliases = refl
numbered LetterAliases = refl
numbered Members = refl
numbered GroupRequires = refl
numbered GroupConflicts = refl
numbered SubcommandAliases = refl
numbered LongFlagAliases = refl
numbered LetterFlagAliases = refl

pub same_list : (l m : ItemList) → Decides (eqb (list_number l) (list_number m)) (l ≡ m)
same_list l m = decides_like
    (λ e. let p = numbered l in let q = numbered m in let r : list_numbered (list_number l) ≡ list_numbered (list_number m) = ap list_numbered e in cc)
    (λ e. ap list_number e) (equal (list_number l) (list_number m))

-- the settings about values are the bits of the mask
masked : (s k : ℕ) → bit_and s value_bits / 2 ^ k % 2 ≡ bit_and (s / 2 ^ k % 2) (value_bits / 2 ^ k % 2)
masked s k = ap (λ (n : ℕ). n % 2) (and_shr s value_bits k) ∙ and_mod (s / 2 ^ k) (value_bits / 2 ^ k) 1

kept_bit : (s k : ℕ) → value_bits / 2 ^ k % 2 ≡ 1 → bit (bit_and s value_bits) k ≡ bit s k
kept_bit s k e =
    let m = masked s k ∙ ap (bit_and (s / 2 ^ k % 2)) e ∙ and_mask (s / 2 ^ k % 2) 1 in
    let q : bit_and s value_bits / 2 ^ k % 2 ≡ s / 2 ^ k % 2 = omega arith in
    ap (λ (n : ℕ). eqb n 1) q

lost_bit : (s k : ℕ) → value_bits / 2 ^ k % 2 ≡ 0 → bit (bit_and s value_bits) k ≡ false
lost_bit s k e = ap (λ (n : ℕ). eqb n 1) (masked s k ∙ ap (bit_and (s / 2 ^ k % 2)) e ∙ and_comm (s / 2 ^ k % 2) 0)

-- bit k is that of a setting about values, which s has
abbrev pub Bit : ℕ → ℕ → Type 0
Bit s k = (t : ArgSettings) × (k ≡ arg_bit t) × OfValues t × (arg_set s t ≡ true)

lost : (s k : ℕ) → value_bits / 2 ^ k % 2 ≡ 0 → bit (bit_and s value_bits) k ≡ true → Bit s k
lost s k e h = absurd (both_ways (bit (bit_and s value_bits) k) (lost_bit s k e) h)

kept : (s : ℕ) (t : ArgSettings) → OfValues t → value_bits / 2 ^ arg_bit t % 2 ≡ 1 → bit (bit_and s value_bits) (arg_bit t) ≡ true → Bit s (arg_bit t)
kept s t o e h = (t, refl, o, sym (kept_bit s (arg_bit t) e) ∙ h)

pub bit_found : (s k m : ℕ) → Stands (range_with_len 0 12) k m → bit (bit_and s value_bits) k ≡ true → Bit s k
bit_found s k m i h =
    let e : m ≡ k = omega (arith, (counting_stands 0 12 k m i).0) in
    let P : ℕ → Type 0 = λ n. bit (bit_and s value_bits) n ≡ true → Bit s n in
    let all : Every P (range_with_len 0 12) =
    lost s 0 refl
    ⨾ lost s 1 refl
    ⨾ lost s 2 refl
    ⨾ lost s 3 refl
    ⨾ kept s HidePossibleValues hide_possible_values refl
    ⨾ kept s AllowHyphenValues allow_hyphen_values refl
    ⨾ kept s AllowNegativeNumbers allow_negative_numbers refl
    ⨾ kept s RequireEquals require_equals refl
    ⨾ kept s Last last refl
    ⨾ lost s 9 refl
    ⨾ kept s HideDefaultValue hide_default_value refl
    ⨾ kept s IgnoreCase ignore_case refl
    ⨾ end
    in
    subst P e (EveryStands P (range_with_len 0 12) all k m i) h

pub found_bit : (s : ℕ) (t : ArgSettings) → OfValues t → arg_set s t ≡ true → Stands (range_with_len 0 12) (arg_bit t) (arg_bit t) × (bit (bit_and s value_bits) (arg_bit t) ≡ true)
found_bit s _ hide_possible_values h = (refl, kept_bit s 4 refl ∙ h)
found_bit s _ allow_hyphen_values h = (refl, kept_bit s 5 refl ∙ h)
found_bit s _ allow_negative_numbers h = (refl, kept_bit s 6 refl ∙ h)
found_bit s _ require_equals h = (refl, kept_bit s 7 refl ∙ h)
found_bit s _ last h = (refl, kept_bit s 8 refl ∙ h)
found_bit s _ hide_default_value h = (refl, kept_bit s 10 refl ∙ h)
found_bit s _ ignore_case h = (refl, kept_bit s 11 refl ∙ h)

-- the lists of references are lists 1 to 7
abbrev Reference : ItemList × (Arg → List Name) → Type 0
Reference l = (list_number l.0 ≤ 7) × ((a : Arg) → l.1 a ≡ arg_names a l.0)

pub reference_is : (i : ℕ) (l : ItemList × (Arg → List Name)) → Stands reference_lists i l → (list_number l.0 ≤ 7) × ((a : Arg) → l.1 a ≡ arg_names a l.0)
reference_is = EveryStands Reference reference_lists
    ((omega arith, λ a. refl) ⨾ (omega arith, λ a. refl) ⨾ (omega arith, λ a. refl) ⨾ (omega arith, λ a. refl) ⨾ (omega arith, λ a. refl) ⨾ (omega arith, λ a. refl) ⨾ (omega arith, λ a. refl) ⨾ end)

pub is_reference : (l : ItemList) → list_number l ≤ 7 → (i : ℕ) × Stands reference_lists i (l, λ a. arg_names a l)
is_reference Requires h = (0, refl)
is_reference RIfs h = (1, refl)
is_reference RIfsAll h = (2, refl)
is_reference RUnless h = (3, refl)
is_reference RUnlessAll h = (4, refl)
is_reference Conflicts h = (5, refl)
is_reference Overrides h = (6, refl)
is_reference LongAliases h = absurd (omega arith)
is_reference LetterAliases h = absurd (omega arith)
is_reference Members h = absurd (omega arith)
is_reference GroupRequires h = absurd (omega arith)
is_reference GroupConflicts h = absurd (omega arith)
is_reference SubcommandAliases h = absurd (omega arith)
is_reference LongFlagAliases h = absurd (omega arith)
is_reference LetterFlagAliases h = absurd (omega arith)
