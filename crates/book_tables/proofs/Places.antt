-- What stands at a place of a book's tables, and whose lists are shown there.
use Rattle.std.proofs.Common.{◌≡◌, ℕ, zero, suc, Bool, true, false, cond, ◌&&◌, List, [], ◌∷◌, map, length, get_or, filter, Some, None, refl, sym, ap, ◌∙◌, arith}
use Rattle.std.specs.List.{slice_get}
use Rattle.std.specs.Option.{option_map}
use Rattle.std.proofs.lemmas.List.{length-map, map-id}
use Rattle.std.proofs.lemmas.Option.{slice_get-map}
use Rattle.std.proofs.lemmas.Simd.{map-map}
use Rattle.form.specs.Model.{Name, blank_arg, blank_group, blank_subcommand}
use Rattle.form.specs.Lists.{list_sort, names_at, letters_at}
use Rattle.form.specs.declared.lists.ItemSort.TheVariants as sort
use Rattle.form.specs.declared.lists.ItemList.{ItemList}
use Rattle.form.specs.declared.lists.ItemList.TheVariants.{Requires, RIfs, RIfsAll, RUnless, RUnlessAll, Conflicts, Overrides, LongAliases, LetterAliases, Members, GroupRequires, GroupConflicts, SubcommandAliases, LongFlagAliases, LetterFlagAliases}
use Rattle.calls.specs.Marked.{Marked, MarkedForm, ItemOf, name_item, letter_item, Row, with_name, with_letter, is_of, names_in, letters_in, arg_entry, group_entry, subcommand_entry, form_of}
use Rattle.calls.specs.Calls.{same_sort, sort_of}
use Rattle.book_tables.specs.declared.held.ItemRow.{ItemRow}
use Rattle.book_tables.specs.Held.{row_held, item_held}
use Rattle.book_tables.proofs.Alters.{map_kept_by}
use Rattle.book_tables.specs.Rows.{named, lettered, row_adds, items_of, items_at, under}

-- the items of the held rows are those of what the rows mean
kept_of : {X Y Z : Type 0} (f : X → Y) (p : Y → Bool) (g : Y → Z) (xs : List X) → map g (filter p (map f xs)) ≡ map (λ x. g (f x)) (filter (λ x. p (f x)) xs)
kept_of f p g xs = ap (map g) (sym (map_kept_by f p xs)) ∙ map-map g f (filter (λ x. p (f x)) xs)

pub items_counted : (k : ℕ) (l : ItemList) (rs : List ItemRow) → length (items_of k l (map row_held rs)) ≡ length (filter (λ r. row_adds k l (row_held r)) rs)
items_counted k l rs = ap length (kept_of row_held (row_adds k l) (λ r. r.item) rs) ∙ length-map (filter (λ r. row_adds k l (row_held r)) rs) _

pub item_shown : (k : ℕ) (l : ItemList) (rs : List ItemRow) (n : ℕ) → slice_get (items_of k l (map row_held rs)) n ≡ option_map (λ r. item_held r.item) (slice_get (filter (λ r. row_adds k l (row_held r)) rs) n)
item_shown k l rs n = ap (λ is. slice_get is n) (kept_of row_held (row_adds k l) (λ r. r.item) rs) ∙ slice_get-map (λ (r : ItemRow). item_held r.item) _ n

-- an item that is there, and one past the end
pub found_at : {X Y : Type 0} (f : X → Y) (d : Y) (xs : List X) (n : ℕ) (x : X) → Some x ≡ slice_get xs n → f x ≡ get_or (map f xs) n d
found_at f d [] n x is = absurd (let z : ◌≡◌ {A = ℕ} 0 1 = cc in omega arith)
found_at f d (y ∷ xs) zero x is = let e : x ≡ y = cc in ap f e
found_at f d (y ∷ xs) (suc n) x is = found_at f d xs n x is

pub none_found : {X Y : Type 0} (f : X → Y) (d : Y) (xs : List X) (n : ℕ) → None ≡ slice_get xs n → d ≡ get_or (map f xs) n d
none_found f d [] n is = refl
none_found f d (y ∷ xs) zero is = absurd (let z : ◌≡◌ {A = ℕ} 0 1 = cc in omega arith)
none_found f d (y ∷ xs) (suc n) is = none_found f d xs n is

-- the entry of a form at a place, and what is blank past the end
pub entry_at : {X Y Z : Type 0} (f : X → Y) (g : Y → Z) (d : Z) (xs : List X) (n : ℕ) (x : X) → Some x ≡ slice_get xs n → g (f x) ≡ get_or (map g (map f xs)) n d
entry_at f g d [] n x is = absurd (let z : ◌≡◌ {A = ℕ} 0 1 = cc in omega arith)
entry_at f g d (y ∷ xs) zero x is = let e : x ≡ y = cc in ap (λ z. g (f z)) e
entry_at f g d (y ∷ xs) (suc n) x is = entry_at f g d xs n x is

pub past_entries : {X Y Z : Type 0} (f : X → Y) (g : Y → Z) (d : Z) (xs : List X) (n : ℕ) → None ≡ slice_get xs n → d ≡ get_or (map g (map f xs)) n d
past_entries f g d [] n is = refl
past_entries f g d (y ∷ xs) zero is = absurd (let z : ◌≡◌ {A = ℕ} 0 1 = cc in omega arith)
past_entries f g d (y ∷ xs) (suc n) is = past_entries f g d xs n is

-- what is seen of the names that the rows have for a list is seen of its items, and so with letters
more_items : (k : ℕ) (l : ItemList) (r : Row) (rs : List Row) → items_of k l (r ∷ rs) ≡ cond (row_adds k l r) (r.item ∷ items_of k l rs) (items_of k l rs)
more_items k l r rs =
    elim (row_adds k l r) as (λ t. map (λ r. r.item) (cond t (r ∷ filter (row_adds k l) rs) (filter (row_adds k l) rs)) ≡ cond t (r.item ∷ items_of k l rs) (items_of k l rs)) [ true ↦ refl | false ↦ refl ]

module _ {X : Type 0} (see : ItemOf → X) where
  one_name : (t : Bool) (x : ItemOf) (ns : List Name) (is : List ItemOf) → map (λ x. see (name_item x)) ns ≡ map see is
      → map (λ x. see (name_item x)) (cond t (with_name x ns) ns) ≡ map see (cond (t && same_sort sort.Name (sort_of x)) (x ∷ is) is)
  one_name true (name_item x) ns is e = ap (λ l. see (name_item x) ∷ l) e
  one_name true (letter_item c) ns is e = e
  one_name false x ns is e = e

  pub names_seen : (k : ℕ) (l : ItemList) (rs : List Row) → list_sort l ≡ sort.Name → map (λ x. see (name_item x)) (names_in k l rs) ≡ map see (items_of k l rs)
  unfolding names_in
  names_seen k l [] is = refl
  names_seen k l (r ∷ rs) is =
      let adds : row_adds k l r ≡ (is_of k l r && same_sort sort.Name (sort_of r.item)) = ap (λ s. is_of k l r && same_sort s (sort_of r.item)) is in
      one_name (is_of k l r) r.item _ _ (names_seen k l rs is) ∙ ap (map see) (ap (λ t. cond t (r.item ∷ items_of k l rs) (items_of k l rs)) (sym adds) ∙ sym (more_items k l r rs))

  one_letter : (t : Bool) (x : ItemOf) (cs : List ℕ) (is : List ItemOf) → map (λ c. see (letter_item c)) cs ≡ map see is
      → map (λ c. see (letter_item c)) (cond t (with_letter x cs) cs) ≡ map see (cond (t && same_sort sort.Letter (sort_of x)) (x ∷ is) is)
  one_letter true (name_item x) cs is e = e
  one_letter true (letter_item c) cs is e = ap (λ l. see (letter_item c) ∷ l) e
  one_letter false x cs is e = e

  pub letters_seen : (k : ℕ) (l : ItemList) (rs : List Row) → list_sort l ≡ sort.Letter → map (λ c. see (letter_item c)) (letters_in k l rs) ≡ map see (items_of k l rs)
  unfolding letters_in
  letters_seen k l [] is = refl
  letters_seen k l (r ∷ rs) is =
      let adds : row_adds k l r ≡ (is_of k l r && same_sort sort.Letter (sort_of r.item)) = ap (λ s. is_of k l r && same_sort s (sort_of r.item)) is in
      one_letter (is_of k l r) r.item _ _ (letters_seen k l rs is) ∙ ap (map see) (ap (λ t. cond t (r.item ∷ items_of k l rs) (items_of k l rs)) (sym adds) ∙ sym (more_items k l r rs))

names_items : (k : ℕ) (l : ItemList) (rs : List Row) → list_sort l ≡ sort.Name → names_in k l rs ≡ map named (items_of k l rs)
names_items k l rs is = sym (map-id (names_in k l rs)) ∙ names_seen named k l rs is

letters_items : (k : ℕ) (l : ItemList) (rs : List Row) → list_sort l ≡ sort.Letter → letters_in k l rs ≡ map lettered (items_of k l rs)
letters_items k l rs is = sym (map-id (letters_in k l rs)) ∙ letters_seen lettered k l rs is

-- a list of the entry at a place: the items under the mark there
at_mark : {X E N : Type 0} (entry : Marked X → E) (es : List (Marked X)) (p : ℕ) (d : E) (list : E → List N) (see : ItemOf → N) (items : ℕ → List ItemOf)
    → ((e : Marked X) → list (entry e) ≡ map see (items e.mark)) → list d ≡ [] → list (get_or (map entry es) p d) ≡ map see (under items (slice_get (map (λ e. e.mark) es) p))
at_mark entry [] p d list see items each none = none
at_mark entry (e ∷ es) zero d list see items each none = each e
at_mark entry (e ∷ es) (suc p) d list see items each none = at_mark entry es p d list see items each none

pub names_listed : (m : MarkedForm) (l : ItemList) (p : ℕ) → names_at (form_of m) l p ≡ map named (items_at m sort.Name l p)
names_listed m Requires p = at_mark (arg_entry m.rows) m.args p blank_arg (λ e. e.requires) named (λ k. items_of k Requires m.rows) (λ e. names_items e.mark Requires m.rows refl) refl
names_listed m RIfs p = at_mark (arg_entry m.rows) m.args p blank_arg (λ e. e.r_ifs) named (λ k. items_of k RIfs m.rows) (λ e. names_items e.mark RIfs m.rows refl) refl
names_listed m RIfsAll p = at_mark (arg_entry m.rows) m.args p blank_arg (λ e. e.r_ifs_all) named (λ k. items_of k RIfsAll m.rows) (λ e. names_items e.mark RIfsAll m.rows refl) refl
names_listed m RUnless p = at_mark (arg_entry m.rows) m.args p blank_arg (λ e. e.r_unless) named (λ k. items_of k RUnless m.rows) (λ e. names_items e.mark RUnless m.rows refl) refl
names_listed m RUnlessAll p = at_mark (arg_entry m.rows) m.args p blank_arg (λ e. e.r_unless_all) named (λ k. items_of k RUnlessAll m.rows) (λ e. names_items e.mark RUnlessAll m.rows refl) refl
names_listed m Conflicts p = at_mark (arg_entry m.rows) m.args p blank_arg (λ e. e.conflicts) named (λ k. items_of k Conflicts m.rows) (λ e. names_items e.mark Conflicts m.rows refl) refl
names_listed m Overrides p = at_mark (arg_entry m.rows) m.args p blank_arg (λ e. e.overrides) named (λ k. items_of k Overrides m.rows) (λ e. names_items e.mark Overrides m.rows refl) refl
names_listed m LongAliases p = at_mark (arg_entry m.rows) m.args p blank_arg (λ e. e.long_aliases) named (λ k. items_of k LongAliases m.rows) (λ e. names_items e.mark LongAliases m.rows refl) refl
names_listed m LetterAliases p = refl
names_listed m Members p = at_mark (group_entry m.rows) m.groups p blank_group (λ e. e.members) named (λ k. items_of k Members m.rows) (λ e. names_items e.mark Members m.rows refl) refl
names_listed m GroupRequires p = at_mark (group_entry m.rows) m.groups p blank_group (λ e. e.requires) named (λ k. items_of k GroupRequires m.rows) (λ e. names_items e.mark GroupRequires m.rows refl) refl
names_listed m GroupConflicts p = at_mark (group_entry m.rows) m.groups p blank_group (λ e. e.conflicts) named (λ k. items_of k GroupConflicts m.rows) (λ e. names_items e.mark GroupConflicts m.rows refl) refl
names_listed m SubcommandAliases p = at_mark (subcommand_entry m.rows) m.subcommands p blank_subcommand (λ e. e.aliases) named (λ k. items_of k SubcommandAliases m.rows) (λ e. names_items e.mark SubcommandAliases m.rows refl) refl
names_listed m LongFlagAliases p = at_mark (subcommand_entry m.rows) m.subcommands p blank_subcommand (λ e. e.long_aliases) named (λ k. items_of k LongFlagAliases m.rows) (λ e. names_items e.mark LongFlagAliases m.rows refl) refl
names_listed m LetterFlagAliases p = refl

pub letters_listed : (m : MarkedForm) (l : ItemList) (p : ℕ) → letters_at (form_of m) l p ≡ map lettered (items_at m sort.Letter l p)
letters_listed m Requires p = refl
letters_listed m RIfs p = refl
letters_listed m RIfsAll p = refl
letters_listed m RUnless p = refl
letters_listed m RUnlessAll p = refl
letters_listed m Conflicts p = refl
letters_listed m Overrides p = refl
letters_listed m LongAliases p = refl
letters_listed m LetterAliases p = at_mark (arg_entry m.rows) m.args p blank_arg (λ e. e.letter_aliases) lettered (λ k. items_of k LetterAliases m.rows) (λ e. letters_items e.mark LetterAliases m.rows refl) refl
letters_listed m Members p = refl
letters_listed m GroupRequires p = refl
letters_listed m GroupConflicts p = refl
letters_listed m SubcommandAliases p = refl
letters_listed m LongFlagAliases p = refl
letters_listed m LetterFlagAliases p = at_mark (subcommand_entry m.rows) m.subcommands p blank_subcommand (λ e. e.letter_aliases) lettered (λ k. items_of k LetterFlagAliases m.rows) (λ e. letters_items e.mark LetterFlagAliases m.rows refl) refl
