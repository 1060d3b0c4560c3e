-- What the rows of the tables tell, as a relation with the rows' own tests, by shape; and that the report lists it in order.
use Rattle.std.proofs.Common.{◌≡◌, ℕ, ◌<◌, Bool, true, false, not, ◌&&◌, eqb, leb, List, [], ◌∷◌, take, Some, None, Option, refl}
use Rattle.std.specs.List.{range_with_len}
use Rattle.std.proofs.lemmas.Bool.{and_parts, eqb-true, not-true}
use Rattle.form.specs.Model.{Name, Arg, Group, Form}
use Rattle.form.specs.Lists.{list_number}
use Rattle.form.specs.declared.lists.ItemList.{ItemList}
use Rattle.form.specs.declared.lists.ItemList.TheVariants.{Conflicts}
use Rattle.rules.specs.declared.breach.Entry.{Entry}
use Rattle.rules.specs.declared.breach.Breach.{Breach}
use Rattle.rules.specs.Order.{when}
use Rattle.rules.specs.Numbers.{rule_number}
use Rattle.rules.specs.Told.{argument, group, of_one, of_bit, of_item, of_two}
use Rattle.rules.specs.Rank.{section, phase, on_owners, spot, place_or_0, list_or_0, rank}
use Rattle.rules.specs.Rows.{ItemRow, own_item, missing_item, ArgRow, own, own_conflict, own_bit, later, items, whole, GroupRow, later_group, with_argument, missing_name, reference_lists, missing, ids}
use Rattle.rules.specs.Report.{item_report, arg_report, group_report}
use Rattle.rules.proofs.Spots.{Among, every, every_stands}
use Rattle.rules.proofs.Listing.{Begins, Listed, listed_wide, listed_places, listed_table, listed_later, listed_leaf, rising}

-- the test holds, and the breach is the one told
abbrev pub Told : Bool → Breach → Breach → Type 0
Told c d b = (c ≡ true) × (b ≡ d)

-- the row tells b of item k, x, of list l of the argument a at p
abbrev pub Item : Form → ℕ → Arg → ItemList → ℕ → Name → Breach → ItemRow → Type 0
Item f p a l k x b (own_item r c) = Told (c l a x) (of_item r (argument p) l k) b
Item f p a l k x b (missing_item r) = Told (missing (ids f) x) (of_item r (argument p) l k) b

-- of the argument a at p
abbrev pub Argument : Form → ℕ → Arg → Breach → ArgRow → Type 0
Argument f p a b (own r c) = Told (c a) (of_one r (argument p)) b
Argument f p a b (own_conflict r c) = Among a.conflicts (λ k x. Told (c a x) (of_item r (argument p) Conflicts k) b)
Argument f p a b (own_bit r c) = Among (range_with_len 0 12) (λ k _. Told (c a k) (of_bit r (argument p) k) b)
Argument f p a b (later r c) = Among f.args (λ q o. (p < q) × Told (c a o) (of_two r (argument p) (argument q)) b)
Argument f p a b (items rows) = Among reference_lists (λ _ l. Among (l.1 a) (λ k x. Among rows (λ _ r. Item f p a l.0 k x b r)))
Argument f p a b (whole r c) = Told (c f a) (of_one r (argument p)) b

-- of the group g at p
abbrev pub Grouped : Form → ℕ → Group → Breach → GroupRow → Type 0
Grouped f p g b (later_group r c) = Among f.groups (λ q h. (p < q) × Told (c g h) (of_two r (group p) (group q)) b)
Grouped f p g b (with_argument r c) = Among f.args (λ q a. Told (c g a) (of_two r (group p) (argument q)) b)
Grouped f p g b (missing_name r l names known) = Among (names g) (λ k x. Told (missing (known f) x) (of_item r (group p) l k) b)

-- a rule's number fits its section and phase, and the rank of its breaches is the plain one
abbrev pub fit : ℕ → ℕ → ℕ → Bool
fit s p n = eqb (section n) s && (eqb (phase n) p && (not (eqb n 47) && (not (leb 36 n && leb n 39) && not (on_owners n))))

abbrev pub full : ℕ → ℕ → Breach → List ℕ
full s p b = s ∷ 0 ∷ place_or_0 b.first ∷ 0 ∷ p ∷ place_or_0 b.second ∷ b.other ∷ list_or_0 b.list ∷ b.item ∷ rule_number b.rule ∷ []

plain_spot : (f : Form) (n : ℕ) (o : Option Entry) → on_owners n ≡ false → spot f n o ≡ place_or_0 o
plain_spot f n None h = refl
plain_spot f n (Some e) h = rw h

rank_of : (f : Form) (b : Breach) (s p : ℕ) → fit s p (rule_number b.rule) ≡ true → rank f b ≡ full s p b
rank_of f b s p h =
    let n = rule_number b.rule in
    let x = and_parts (eqb (section n) s) _ h in
    let y = and_parts (eqb (phase n) p) _ x.1 in
    let z = and_parts (not (eqb n 47)) _ y.1 in
    let w = and_parts (not (leb 36 n && leb n 39)) _ z.1 in
    let c = eqb-true (section n) s x.0 in
    let d = eqb-true (phase n) p y.0 in
    let e = not-true (eqb n 47) z.0 in
    let g = not-true (leb 36 n && leb n 39) w.0 in
    let o = not-true (on_owners n) w.1 in
    let i = plain_spot f n b.first o in
    let j = plain_spot f n b.second o in
    rw (c, d, e, g, i, j)

-- one breach, told if the test holds: the first d numbers of its rank
pub told : (f : Form) (s p d : ℕ) {c : Bool} {b : Breach} → fit s p (rule_number b.rule) ≡ true → Listed (rank f) (Begins (take d (full s p b))) (Told c b) (when c b)
told f s p d {c} {b} h = listed_leaf d (full s p b) (λ _. rank_of f b s p h)

-- the numbers of rows
abbrev item_number : ItemRow → ℕ
item_number (own_item r c) = rule_number r
item_number (missing_item r) = rule_number r

abbrev pub arg_number : ArgRow → ℕ
arg_number (own r c) = rule_number r
arg_number (own_conflict r c) = rule_number r
arg_number (own_bit r c) = rule_number r
arg_number (later r c) = rule_number r
arg_number (items rows) = 23
arg_number (whole r c) = rule_number r

abbrev pub group_number : GroupRow → ℕ
group_number (later_group r c) = rule_number r
group_number (with_argument r c) = rule_number r
group_number (missing_name r l names known) = rule_number r

abbrev pub arg_fit : ℕ → ArgRow → Bool
arg_fit s (own r c) = fit s (rule_number r) (rule_number r)
arg_fit s (own_conflict r c) = fit s (rule_number r) (rule_number r)
arg_fit s (own_bit r c) = fit s (rule_number r) (rule_number r)
arg_fit s (later r c) = fit s (rule_number r) (rule_number r)
arg_fit s (items rows) = rising item_number 0 rows && every (λ r. fit s 23 (item_number r)) rows
arg_fit s (whole r c) = fit s (rule_number r) (rule_number r)

abbrev pub group_fit : ℕ → GroupRow → Bool
group_fit s r = fit s (group_number r) (group_number r)

-- the front of a rank: section, entry, phase; and then no second entry, and the list
abbrev at_entry : ℕ → ℕ → ℕ → List ℕ
at_entry s i p = s ∷ 0 ∷ i ∷ 0 ∷ p ∷ []

abbrev at_list : ℕ → ℕ → ℕ → ℕ → List ℕ
at_list s i p l = s ∷ 0 ∷ i ∷ 0 ∷ p ∷ 0 ∷ 0 ∷ l ∷ []

item_listed : (f : Form) (s p : ℕ) (a : Arg) (l : ItemList) (k : ℕ) (x : Name) (r : ItemRow) → fit s 23 (item_number r) ≡ true
    → Listed (rank f) (Begins (s ∷ 0 ∷ p ∷ 0 ∷ 23 ∷ 0 ∷ 0 ∷ list_number l ∷ k ∷ item_number r ∷ [])) (λ b. Item f p a l k x b r) (item_report f p a l k x r)
item_listed f s p a l k x (own_item r c) h = told f s 23 10 h
item_listed f s p a l k x (missing_item r) h = told f s 23 10 h

pub arg_listed : (f : Form) (s p : ℕ) (a : Arg) (r : ArgRow) → arg_fit s r ≡ true
    → Listed (rank f) (Begins (s ∷ 0 ∷ p ∷ 0 ∷ arg_number r ∷ [])) (λ b. Argument f p a b r) (arg_report f p a r)
arg_listed f s p a (own r c) h = told f s (rule_number r) 5 h
arg_listed f s p a (own_conflict r c) h = listed_wide (at_entry s p (rule_number r)) (0 ∷ 0 ∷ 6 ∷ []) (listed_places (at_list s p (rule_number r) 6) a.conflicts (λ k x _. told f s (rule_number r) 9 h))
arg_listed f s p a (own_bit r c) h = listed_wide (at_entry s p (rule_number r)) (0 ∷ 0 ∷ 0 ∷ []) (listed_places (at_list s p (rule_number r) 0) (range_with_len 0 12) (λ k _ _. told f s (rule_number r) 9 h))
arg_listed f s p a (later r c) h = listed_later (at_entry s p (rule_number r)) p f.args (λ q o _ _. told f s (rule_number r) 6 h)
arg_listed f s p a (items rows) h =
    let t = and_parts (rising item_number 0 rows) _ h in
    listed_wide (at_entry s p 23) (0 ∷ 0 ∷ []) (listed_table (s ∷ 0 ∷ p ∷ 0 ∷ 23 ∷ 0 ∷ 0 ∷ []) (λ l. list_number l.0) reference_lists refl (λ _ l _.
    listed_places (at_list s p 23 (list_number l.0)) (l.1 a) (λ k x _.
    listed_table (s ∷ 0 ∷ p ∷ 0 ∷ 23 ∷ 0 ∷ 0 ∷ list_number l.0 ∷ k ∷ []) item_number rows t.0
    (λ m r u. item_listed f s p a l.0 k x r (every_stands (λ q. fit s 23 (item_number q)) rows t.1 m r u)))))
arg_listed f s p a (whole r c) h = told f s (rule_number r) 5 h

pub group_listed : (f : Form) (s p : ℕ) (g : Group) (r : GroupRow) → group_fit s r ≡ true
    → Listed (rank f) (Begins (s ∷ 0 ∷ p ∷ 0 ∷ group_number r ∷ [])) (λ b. Grouped f p g b r) (group_report f p g r)
group_listed f s p g (later_group r c) h = listed_later (at_entry s p (rule_number r)) p f.groups (λ q o _ _. told f s (rule_number r) 6 h)
group_listed f s p g (with_argument r c) h = listed_places (at_entry s p (rule_number r)) f.args (λ q a _. told f s (rule_number r) 6 h)
group_listed f s p g (missing_name r l names known) h = listed_wide (at_entry s p (rule_number r)) (0 ∷ 0 ∷ list_number l ∷ []) (listed_places (at_list s p (rule_number r) (list_number l)) (names g) (λ k x _. told f s (rule_number r) 9 h))
