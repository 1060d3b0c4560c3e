-- What the rows of a table show at a place, list by list: what the row there means, or nothing past the end.
use Rattle.std.proofs.Common.{◌≡◌, ℕ, zero, suc, List, [], ◌∷◌, map, get_or, refl, ap, ◌∙◌}
use Rattle.std.specs.List.{slice_get}
use Rattle.std.specs.Option.{option_map, unwrap_or}
use Rattle.form.specs.Model.{Name, blank_arg, blank_group, blank_subcommand}
use Rattle.form.specs.Lists.{arg_names, names_at, letters_at, list_owner}
use Rattle.form.specs.declared.lists.EntryKind.{EntryKind}
use Rattle.form.specs.declared.lists.EntryKind.TheVariants.{Argument, Group, Subcommand}
use Rattle.form.specs.declared.lists.ItemList.{ItemList}
use Rattle.form.specs.declared.lists.ItemList.TheVariants.{Requires, RIfs, RIfsAll, RUnless, RUnlessAll, Conflicts, Overrides, LongAliases, LetterAliases, Members, GroupRequires, GroupConflicts, SubcommandAliases, LongFlagAliases, LetterFlagAliases}
use Rattle.table.specs.Entries.{arg_of, group_of, subcommand_of, arg_letters, group_names, subcommand_names, subcommand_letters}
use Rattle.table.specs.Meant.{tables_meant}
use Rattle.table.specs.declared.table_form.Tables.{Tables}

-- a part of what the row at the place means, or of what is blank past the end
pub part_at : {X Y Z : Type 0} (of : X → Y) (part : Y → Z) (xs : List X) (i : ℕ) (blank : Y) (none : Z) → none ≡ part blank → unwrap_or (option_map (λ x. part (of x)) (slice_get xs i)) none ≡ part (get_or (map of xs) i blank)
part_at of part [] i blank none e = e
part_at of part (x ∷ xs) zero blank none e = refl
part_at of part (x ∷ xs) (suc i) blank none e = part_at of part xs i blank none e

-- the names in the list of the row of that kind at the place
abbrev pub row_names : EntryKind → Tables → ItemList → ℕ → List Name
row_names Argument t l p = unwrap_or (option_map (λ r. arg_names (arg_of r) l) (slice_get t.args.now p)) []
row_names Group t l p = unwrap_or (option_map (λ r. group_names (group_of r) l) (slice_get t.groups.now p)) []
row_names Subcommand t l p = unwrap_or (option_map (λ r. subcommand_names (subcommand_of r) l) (slice_get t.subcommands.now p)) []

names_owned : (t : Tables) (l : ItemList) (p : ℕ) → row_names (list_owner l) t l p ≡ names_at (tables_meant t) l p
names_owned t Requires p = part_at arg_of (λ e. arg_names e Requires) t.args.now p blank_arg [] refl
names_owned t RIfs p = part_at arg_of (λ e. arg_names e RIfs) t.args.now p blank_arg [] refl
names_owned t RIfsAll p = part_at arg_of (λ e. arg_names e RIfsAll) t.args.now p blank_arg [] refl
names_owned t RUnless p = part_at arg_of (λ e. arg_names e RUnless) t.args.now p blank_arg [] refl
names_owned t RUnlessAll p = part_at arg_of (λ e. arg_names e RUnlessAll) t.args.now p blank_arg [] refl
names_owned t Conflicts p = part_at arg_of (λ e. arg_names e Conflicts) t.args.now p blank_arg [] refl
names_owned t Overrides p = part_at arg_of (λ e. arg_names e Overrides) t.args.now p blank_arg [] refl
names_owned t LongAliases p = part_at arg_of (λ e. arg_names e LongAliases) t.args.now p blank_arg [] refl
names_owned t LetterAliases p = part_at arg_of (λ e. arg_names e LetterAliases) t.args.now p blank_arg [] refl
names_owned t Members p = part_at group_of (λ e. group_names e Members) t.groups.now p blank_group [] refl
names_owned t GroupRequires p = part_at group_of (λ e. group_names e GroupRequires) t.groups.now p blank_group [] refl
names_owned t GroupConflicts p = part_at group_of (λ e. group_names e GroupConflicts) t.groups.now p blank_group [] refl
names_owned t SubcommandAliases p = part_at subcommand_of (λ e. subcommand_names e SubcommandAliases) t.subcommands.now p blank_subcommand [] refl
names_owned t LongFlagAliases p = part_at subcommand_of (λ e. subcommand_names e LongFlagAliases) t.subcommands.now p blank_subcommand [] refl
names_owned t LetterFlagAliases p = part_at subcommand_of (λ e. subcommand_names e LetterFlagAliases) t.subcommands.now p blank_subcommand [] refl

pub names_shown : (t : Tables) (l : ItemList) (p : ℕ) (k : EntryKind) → k ≡ list_owner l → row_names k t l p ≡ names_at (tables_meant t) l p
names_shown t l p k e = ap (λ k. row_names k t l p) e ∙ names_owned t l p

-- the letters in the same way; a group has none
abbrev pub row_letters : EntryKind → Tables → ItemList → ℕ → List ℕ
row_letters Argument t l p = unwrap_or (option_map (λ r. arg_letters (arg_of r) l) (slice_get t.args.now p)) []
row_letters Group t l p = unwrap_or (option_map (λ r. []) (slice_get t.groups.now p)) []
row_letters Subcommand t l p = unwrap_or (option_map (λ r. subcommand_letters (subcommand_of r) l) (slice_get t.subcommands.now p)) []

letters_owned : (t : Tables) (l : ItemList) (p : ℕ) → row_letters (list_owner l) t l p ≡ letters_at (tables_meant t) l p
letters_owned t Requires p = part_at arg_of (λ e. arg_letters e Requires) t.args.now p blank_arg [] refl
letters_owned t RIfs p = part_at arg_of (λ e. arg_letters e RIfs) t.args.now p blank_arg [] refl
letters_owned t RIfsAll p = part_at arg_of (λ e. arg_letters e RIfsAll) t.args.now p blank_arg [] refl
letters_owned t RUnless p = part_at arg_of (λ e. arg_letters e RUnless) t.args.now p blank_arg [] refl
letters_owned t RUnlessAll p = part_at arg_of (λ e. arg_letters e RUnlessAll) t.args.now p blank_arg [] refl
letters_owned t Conflicts p = part_at arg_of (λ e. arg_letters e Conflicts) t.args.now p blank_arg [] refl
letters_owned t Overrides p = part_at arg_of (λ e. arg_letters e Overrides) t.args.now p blank_arg [] refl
letters_owned t LongAliases p = part_at arg_of (λ e. arg_letters e LongAliases) t.args.now p blank_arg [] refl
letters_owned t LetterAliases p = part_at arg_of (λ e. arg_letters e LetterAliases) t.args.now p blank_arg [] refl
letters_owned t Members p = part_at group_of (λ e. []) t.groups.now p blank_group [] refl
letters_owned t GroupRequires p = part_at group_of (λ e. []) t.groups.now p blank_group [] refl
letters_owned t GroupConflicts p = part_at group_of (λ e. []) t.groups.now p blank_group [] refl
letters_owned t SubcommandAliases p = part_at subcommand_of (λ e. subcommand_letters e SubcommandAliases) t.subcommands.now p blank_subcommand [] refl
letters_owned t LongFlagAliases p = part_at subcommand_of (λ e. subcommand_letters e LongFlagAliases) t.subcommands.now p blank_subcommand [] refl
letters_owned t LetterFlagAliases p = part_at subcommand_of (λ e. subcommand_letters e LetterFlagAliases) t.subcommands.now p blank_subcommand [] refl

pub letters_shown : (t : Tables) (l : ItemList) (p : ℕ) (k : EntryKind) → k ≡ list_owner l → row_letters k t l p ≡ letters_at (tables_meant t) l p
letters_shown t l p k e = ap (λ k. row_letters k t l p) e ∙ letters_owned t l p
