-- The report, to be computed: what each row tells, in order.
use Rattle.std.specs.Prelude.{ℕ, zero, suc, Bool, not, ◌&&◌, List, [], ◌∷◌, take, drop, Some, None, Option, nat_eq}
use Rattle.std.specs.List.{range_with_len}
use Rattle.std.specs.Str.{bytes_eq}
use Rattle.form.specs.Model.{Name, Arg, Group, Subcommand, Form}
use Rattle.form.specs.Settings.{arg_set}
use Rattle.form.specs.declared.lists.ItemList.{ItemList}
use Rattle.form.specs.declared.lists.ItemList.TheVariants.{Conflicts}
use Rattle.form.specs.declared.arg_settings.ArgSettings.TheVariants.{Required}
use Rattle.rules.specs.declared.rule.Rule.{Rule}
use Rattle.rules.specs.declared.rule.Rule.TheVariants.{SubcommandNameTaken, SubcommandAliasTaken, OptionalBeforeRequired}
use Rattle.rules.specs.declared.breach.Breach.{Breach}
use Rattle.rules.specs.Order.{blocks, when}
use Rattle.rules.specs.Told.{argument, group, subcommand, of_form, of_one, of_bit, of_item, of_two, of_flags}
use Rattle.rules.specs.Words.{Owner, owners, position_count}
use Rattle.rules.specs.Rows.{ItemRow, own_item, missing_item, ArgRow, own, own_conflict, own_bit, later, items, whole, GroupRow, later_group, with_argument, missing_name, Section, of_the_form, by_argument, by_subcommand, by_group, by_long_flag, by_letter_flag, by_subcommand_name, at_ends, by_position, reference_lists, sections, missing, ids, same_if, flags, differ, earlier, ends, arg_of, first_at, settled_above}

-- what a row tells of item k, x, of list l of the argument a at p
abbrev pub item_report : Form → ℕ → Arg → ItemList → ℕ → Name → ItemRow → List Breach
item_report f p a l k x (own_item r c) = when (c l a x) (of_item r (argument p) l k)
item_report f p a l k x (missing_item r) = when (missing (ids f) x) (of_item r (argument p) l k)

-- of the lists of references of an argument, list by list, item by item, row by row
abbrev pub items_report : Form → ℕ → Arg → List ItemRow → List Breach
items_report f p a rows = blocks (λ _ l. blocks (λ k x. blocks (λ _ r. item_report f p a l.0 k x r) 0 rows) 0 (l.1 a)) 0 reference_lists

-- what a row tells of the argument a at p
abbrev pub arg_report : Form → ℕ → Arg → ArgRow → List Breach
arg_report f p a (own r c) = when (c a) (of_one r (argument p))
arg_report f p a (own_conflict r c) = blocks (λ k x. when (c a x) (of_item r (argument p) Conflicts k)) 0 a.conflicts
arg_report f p a (own_bit r c) = blocks (λ k _. when (c a k) (of_bit r (argument p) k)) 0 (range_with_len 0 12)
arg_report f p a (later r c) = blocks (λ q b. when (c a b) (of_two r (argument p) (argument q))) (suc p) (drop (suc p) f.args)
arg_report f p a (items rows) = items_report f p a rows
arg_report f p a (whole r c) = when (c f a) (of_one r (argument p))

-- of the group g at p
abbrev pub group_report : Form → ℕ → Group → GroupRow → List Breach
group_report f p g (later_group r c) = blocks (λ q h. when (c g h) (of_two r (group p) (group q))) (suc p) (drop (suc p) f.groups)
group_report f p g (with_argument r c) = blocks (λ q a. when (c g a) (of_two r (group p) (argument q))) 0 f.args
group_report f p g (missing_name r l names known) = blocks (λ k x. when (missing (known f) x) (of_item r (group p) l k)) 0 (names g)

-- the clashes of one flag of the owner o with those of the owner w
abbrev pub clash_report : {X : Type 0} → (X → X → Bool) → Rule → Owner → ℕ → Option X → Owner → List (Option X) → List Breach
clash_report same r o k x w ys = blocks (λ m y. when (same_if same x y && differ o w) (of_flags r o.entry k w.entry m)) 0 ys

-- flag by flag, with the flags of each later owner
abbrev pub flags_report : {X : Type 0} → (X → X → Bool) → (Owner → List (Option X)) → Rule → List Owner → List Breach
flags_report same flags_of r os = blocks (λ i o. blocks (λ k x. blocks (λ _ w. clash_report same r o k x w (flags_of w)) (suc i) (drop (suc i) os)) 0 (flags_of o)) 0 os

abbrev pub long_flags : Owner → List (Option Name)
long_flags o = flags o.long o.long_aliases

abbrev pub letter_flags : Owner → List (Option ℕ)
letter_flags o = flags o.letter o.letter_aliases

-- the names of a subcommand, its own first
abbrev pub called : Subcommand → List Name
called s = s.name ∷ s.aliases

-- rule 38 for a name, rule 39 for an alias
abbrev pub taken_rule : ℕ → Rule
taken_rule zero = SubcommandNameTaken
taken_rule (suc k) = SubcommandAliasTaken

-- what the name x, number k of the subcommand at p, tells of the earlier names of the subcommand t at q
abbrev pub taken_report : ℕ → ℕ → Name → ℕ → Subcommand → List Breach
taken_report p k x q t = blocks (λ m y. when (earlier q m p k && bytes_eq x y) (of_flags (taken_rule k) (subcommand p) k (subcommand q) m)) 0 (called t)

abbrev pub names_report : List Subcommand → List Breach
names_report ss = blocks (λ p s. blocks (λ k x. blocks (λ q t. taken_report p k x q t) 0 (take (suc p) ss)) 0 (called s)) 0 ss

-- n, n - 1, .. 1
abbrev pub down : ℕ → List ℕ
down zero = []
down (suc n) = suc n ∷ down n

-- what the first argument of the position n tells
abbrev pub position_report : Form → ℕ → Option ℕ → List Breach
position_report f n None = []
position_report f n (Some p) = when (not (arg_set (arg_of f p).settings Required) && settled_above f n) (of_one OptionalBeforeRequired (argument p))

-- what a section tells of the form
abbrev pub section_report : Form → Section → List Breach
section_report f (of_the_form r c) = when (c f) (of_form r)
section_report f (by_argument _ rows) = blocks (λ p a. blocks (λ _ r. arg_report f p a r) 0 rows) 0 f.args
section_report f (by_subcommand r c) = blocks (λ p s. when (c s) (of_one r (subcommand p))) 0 f.subcommands
section_report f (by_group _ rows) = blocks (λ p g. blocks (λ _ r. group_report f p g r) 0 rows) 0 f.groups
section_report f (by_long_flag r) = flags_report bytes_eq long_flags r (owners f)
section_report f (by_letter_flag r) = flags_report nat_eq letter_flags r (owners f)
section_report f by_subcommand_name = names_report f.subcommands
section_report f (at_ends r c) = blocks (λ _ e. when (c f (arg_of f e.0) (arg_of f e.1)) (of_two r (argument e.0) (argument e.1))) 0 (ends f)
section_report f by_position = blocks (λ _ n. position_report f n (first_at n 0 f.args)) 0 (down (position_count f))

-- every breach of a form, in the order of a report
unfoldable pub breaches : Form → List Breach
breaches f = blocks (λ _ s. section_report f s) 0 sections
