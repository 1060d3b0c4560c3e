-- What rows add to a list of an entry, and whose lists stand at a place.
use Rattle.std.specs.Prelude.{ℕ, Bool, cond, ◌&&◌, List, [], map, Some, None, Option, filter}
use Rattle.std.specs.List.{slice_get}
use Rattle.form.specs.Model.{Name}
use Rattle.form.specs.Lists.{list_owner, list_sort}
use Rattle.form.specs.declared.lists.EntryKind.{EntryKind}
use Rattle.form.specs.declared.lists.EntryKind.TheVariants.{Argument, Group, Subcommand}
use Rattle.form.specs.declared.lists.ItemList.{ItemList}
use Rattle.form.specs.declared.lists.ItemSort.{ItemSort}
use Rattle.calls.specs.Marked.{ItemOf, name_item, letter_item, Row, MarkedForm, is_of}
use Rattle.calls.specs.Calls.{same_sort, sort_of}

-- the row adds its item to the list of the entry of the mark: it is of that list, and the item is of the list's sort
abbrev pub row_adds : ℕ → ItemList → Row → Bool
row_adds k l r = is_of k l r && same_sort (list_sort l) (sort_of r.item)

-- the items that rows add to the list
abbrev pub items_of : ℕ → ItemList → List Row → List ItemOf
items_of k l rs = map (λ r. r.item) (filter (row_adds k l) rs)

-- an item as a name, or as a letter
abbrev pub named : ItemOf → Name
named (name_item x) = x
named (letter_item c) = []

abbrev pub lettered : ItemOf → ℕ
lettered (name_item x) = 0
lettered (letter_item c) = c

-- the mark of the entry at the place of the table of that kind
abbrev pub mark_at : MarkedForm → EntryKind → ℕ → Option ℕ
mark_at m Argument p = slice_get (map (λ e. e.mark) m.args) p
mark_at m Group p = slice_get (map (λ e. e.mark) m.groups) p
mark_at m Subcommand p = slice_get (map (λ e. e.mark) m.subcommands) p

-- a list of the entry of a mark; empty where there is no entry
abbrev pub under : {X : Type 0} → (ℕ → List X) → Option ℕ → List X
under lists None = []
under lists (Some k) = lists k

-- whose list stands at the place; no one's where the list holds items of the other sort
abbrev pub owner_at : MarkedForm → ItemSort → ItemList → ℕ → Option ℕ
owner_at m s l p = cond (same_sort (list_sort l) s) (mark_at m (list_owner l) p) None

abbrev pub items_at : MarkedForm → ItemSort → ItemList → ℕ → List ItemOf
items_at m s l p = under (λ k. items_of k l m.rows) (owner_at m s l p)
