-- The form of a book is within the limits of a form: each row counts for one entry at most, since marks ascend in each table.
use Rattle.std.specs.Prelude.{◌≡◌, ℕ, ◌+◌, ◌<◌, ◌≤◌, Bool, true, false, cond, ◌&&◌, List, [], ◌∷◌, map, length, vec_items, ◌==◌, nat_le, refl}
use Rattle.std.proofs.Common.{sym, ap, ◌∙◌, arith, eqb-true, leb-true, ne_eqb}
use Rattle.std.proofs.lemmas.List.{length-map}
use Rattle.std.proofs.lemmas.Bool.{and_parts}
use Rattle.form.specs.Model.{Name}
use Rattle.form.specs.Lists.{list_number}
use Rattle.form.specs.Limits.{Fits, arg_items, group_items, subcommand_items, summed}
use Rattle.form.specs.NameBytes.{name_bytes}
use Rattle.form.specs.Shown.{ArgRecord, SubcommandRecord}
use Rattle.form.specs.declared.lists.ItemList.{ItemList}
use Rattle.form.specs.declared.lists.ItemList.TheVariants.{Requires, RIfs, RIfsAll, RUnless, RUnlessAll, Conflicts, Overrides, LongAliases, LetterAliases, Members, GroupRequires, GroupConflicts, SubcommandAliases, LongFlagAliases, LetterFlagAliases}
use Rattle.calls.specs.Marked.{Marked, ItemOf, name_item, letter_item, Row, with_name, with_letter, names_in, letters_in, arg_entry, group_entry, subcommand_entry, form_of}
use Rattle.book_tables.specs.declared.held.Held.{Held}
use Rattle.book_tables.specs.declared.tables.Tables.{Tables}
use Rattle.book_tables.specs.Held.{held, marks, arg_held, subcommand_held, row_held}
use Rattle.book_tables.specs.Marks.{climbing}
use Rattle.book_tables.specs.Tables.{tables_marked}

-- 1 where the lists are the same
abbrev hit : ItemList → ItemList → ℕ
hit l of = cond (list_number l == list_number of) 1 0

-- 1 where the list is one of an argument's, a group's, a subcommand's
abbrev arg_weight : ItemList → ℕ
arg_weight l =
    hit l Requires + (hit l RIfs + (hit l RIfsAll + (hit l RUnless + (hit l RUnlessAll + (hit l Conflicts + (hit l Overrides + (hit l LongAliases + hit l LetterAliases)))))))

abbrev group_weight : ItemList → ℕ
group_weight l = hit l Members + (hit l GroupRequires + hit l GroupConflicts)

abbrev subcommand_weight : ItemList → ℕ
subcommand_weight l = hit l SubcommandAliases + (hit l LongFlagAliases + hit l LetterFlagAliases)

-- a list is of one kind of entry
one_kind : (l : ItemList) → arg_weight l + (group_weight l + subcommand_weight l) ≡ 1
one_kind Requires = refl
one_kind RIfs = refl
one_kind RIfsAll = refl
one_kind RUnless = refl
one_kind RUnlessAll = refl
one_kind Conflicts = refl
one_kind Overrides = refl
one_kind LongAliases = refl
one_kind LetterAliases = refl
one_kind Members = refl
one_kind GroupRequires = refl
one_kind GroupConflicts = refl
one_kind SubcommandAliases = refl
one_kind LongFlagAliases = refl
one_kind LetterFlagAliases = refl

-- the weight of the rows of one entry, of all rows, and of the rows of some entries
abbrev counted : (ItemList → ℕ) → ℕ → List Row → ℕ
counted w k [] = 0
counted w k (r ∷ rs) = cond (r.owner == k) (w r.list) 0 + counted w k rs

abbrev weighed : (ItemList → ℕ) → List Row → ℕ
weighed w [] = 0
weighed w (r ∷ rs) = w r.list + weighed w rs

abbrev totals : (ItemList → ℕ) → List ℕ → List Row → ℕ
totals w [] rs = 0
totals w (k ∷ ks) rs = counted w k rs + totals w ks rs

-- what one row adds to those of some entries
abbrev share : ℕ → ℕ → List ℕ → ℕ
share o n [] = 0
share o n (k ∷ ks) = cond (o == k) n 0 + share o n ks

share_none : (o n low : ℕ) (ks : List ℕ) (top : ℕ) → climbing low ks top ≡ true → o < low → share o n ks ≡ 0
unfolding climbing
share_none o n low [] top up lt = refl
share_none o n low (k ∷ ks) top up lt =
    let parts = and_parts (nat_le low k) (climbing (k + 1) ks top) up in
    let le = leb-true low k parts.0 in
    let rest = parts.1 in
    rw (ne_eqb o k (λ e. omega arith), share_none o n (k + 1) ks top rest (omega arith))

share_few : (o n low : ℕ) (ks : List ℕ) (top : ℕ) → climbing low ks top ≡ true → share o n ks ≤ n
unfolding climbing
share_few o n low [] top up = omega arith
share_few o n low (k ∷ ks) top up =
    let rest = (and_parts (nat_le low k) (climbing (k + 1) ks top) up).1 in
    here (o == k) refl (share_few o n (k + 1) ks top rest) (λ e. share_none o n (k + 1) ks top rest (omega arith))
  where
    here : (t : Bool) → (o == k) ≡ t → share o n ks ≤ n → (o ≡ k → share o n ks ≡ 0) → cond t n 0 + share o n ks ≤ n
    here true is few none = omega (arith, none (eqb-true o k is))
    here false is few none = omega arith

totals_none : (w : ItemList → ℕ) (ks : List ℕ) → totals w ks [] ≡ 0
totals_none w [] = refl
totals_none w (k ∷ ks) = rw (totals_none w ks)

totals_more : (w : ItemList → ℕ) (ks : List ℕ) (r : Row) (rs : List Row) → totals w ks (r ∷ rs) ≡ share r.owner (w r.list) ks + totals w ks rs
totals_more w [] r rs = refl
totals_more w (k ∷ ks) r rs = omega (arith, totals_more w ks r rs)

totals_few : (w : ItemList → ℕ) (ks : List ℕ) (top : ℕ) (rs : List Row) → climbing 1 ks top ≡ true → totals w ks rs ≤ weighed w rs
totals_few w ks top [] up = omega (arith, totals_none w ks)
totals_few w ks top (r ∷ rs) up = omega (arith, totals_more w ks r rs, share_few r.owner (w r.list) 1 ks top up, totals_few w ks top rs up)

all_weighed : (rs : List Row) → weighed arg_weight rs + (weighed group_weight rs + weighed subcommand_weight rs) ≡ length rs
all_weighed [] = refl
all_weighed (r ∷ rs) = omega (arith, one_kind r.list, all_weighed rs)

-- one row adds to the lists that it is of
name_grows : (t : Bool) (x : ItemOf) (xs : List Name) → length (cond t (with_name x xs) xs) ≤ cond t 1 0 + length xs
name_grows true (name_item x) xs = omega arith
name_grows true (letter_item c) xs = omega arith
name_grows false x xs = omega arith

letter_grows : (t : Bool) (x : ItemOf) (cs : List ℕ) → length (cond t (with_letter x cs) cs) ≤ cond t 1 0 + length cs
letter_grows true (name_item x) cs = omega arith
letter_grows true (letter_item c) cs = omega arith
letter_grows false x cs = omega arith

arg_grows : (t : Bool) (l : ItemList) (x : ItemOf) (x1 x2 x3 x4 x5 x6 x7 x8 : List Name) (x9 : List ℕ)
    → length (cond (t && list_number l == list_number Requires) (with_name x x1) x1) + (length (cond (t && list_number l == list_number RIfs) (with_name x x2) x2) + (length (cond (t && list_number l == list_number RIfsAll) (with_name x x3) x3) + (length (cond (t && list_number l == list_number RUnless) (with_name x x4) x4) + (length (cond (t && list_number l == list_number RUnlessAll) (with_name x x5) x5) + (length (cond (t && list_number l == list_number Conflicts) (with_name x x6) x6) + (length (cond (t && list_number l == list_number Overrides) (with_name x x7) x7) + (length (cond (t && list_number l == list_number LongAliases) (with_name x x8) x8) + length (cond (t && list_number l == list_number LetterAliases) (with_letter x x9) x9))))))))
    ≤ cond t (arg_weight l) 0 + (length x1 + (length x2 + (length x3 + (length x4 + (length x5 + (length x6 + (length x7 + (length x8 + length x9))))))))
arg_grows false l x x1 x2 x3 x4 x5 x6 x7 x8 x9 = omega arith
arg_grows true l x x1 x2 x3 x4 x5 x6 x7 x8 x9 =
    omega (arith, name_grows (list_number l == list_number Requires) x x1, name_grows (list_number l == list_number RIfs) x x2, name_grows (list_number l == list_number RIfsAll) x x3, name_grows (list_number l == list_number RUnless) x x4, name_grows (list_number l == list_number RUnlessAll) x x5, name_grows (list_number l == list_number Conflicts) x x6, name_grows (list_number l == list_number Overrides) x x7, name_grows (list_number l == list_number LongAliases) x x8, letter_grows (list_number l == list_number LetterAliases) x x9)

arg_counted : (e : Marked ArgRecord) (rs : List Row) → arg_items (arg_entry rs e) ≤ counted arg_weight e.mark rs
unfolding names_in letters_in
arg_counted e [] = omega arith
arg_counted e (r ∷ rs) =
    omega (arith, arg_grows (r.owner == e.mark) r.list r.item (names_in e.mark Requires rs) (names_in e.mark RIfs rs) (names_in e.mark RIfsAll rs) (names_in e.mark RUnless rs) (names_in e.mark RUnlessAll rs) (names_in e.mark Conflicts rs) (names_in e.mark Overrides rs) (names_in e.mark LongAliases rs) (letters_in e.mark LetterAliases rs), arg_counted e rs)

group_grows : (t : Bool) (l : ItemList) (x : ItemOf) (x1 x2 x3 : List Name)
    → length (cond (t && list_number l == list_number Members) (with_name x x1) x1) + (length (cond (t && list_number l == list_number GroupRequires) (with_name x x2) x2) + length (cond (t && list_number l == list_number GroupConflicts) (with_name x x3) x3))
    ≤ cond t (group_weight l) 0 + (length x1 + (length x2 + length x3))
group_grows false l x x1 x2 x3 = omega arith
group_grows true l x x1 x2 x3 =
    omega (arith, name_grows (list_number l == list_number Members) x x1, name_grows (list_number l == list_number GroupRequires) x x2, name_grows (list_number l == list_number GroupConflicts) x x3)

group_counted : (e : Marked Name) (rs : List Row) → group_items (group_entry rs e) ≤ counted group_weight e.mark rs
unfolding names_in letters_in
group_counted e [] = omega arith
group_counted e (r ∷ rs) =
    omega (arith, group_grows (r.owner == e.mark) r.list r.item (names_in e.mark Members rs) (names_in e.mark GroupRequires rs) (names_in e.mark GroupConflicts rs), group_counted e rs)

subcommand_grows : (t : Bool) (l : ItemList) (x : ItemOf) (x1 x2 : List Name) (x3 : List ℕ)
    → length (cond (t && list_number l == list_number SubcommandAliases) (with_name x x1) x1) + (length (cond (t && list_number l == list_number LongFlagAliases) (with_name x x2) x2) + length (cond (t && list_number l == list_number LetterFlagAliases) (with_letter x x3) x3))
    ≤ cond t (subcommand_weight l) 0 + (length x1 + (length x2 + length x3))
subcommand_grows false l x x1 x2 x3 = omega arith
subcommand_grows true l x x1 x2 x3 =
    omega (arith, name_grows (list_number l == list_number SubcommandAliases) x x1, name_grows (list_number l == list_number LongFlagAliases) x x2, letter_grows (list_number l == list_number LetterFlagAliases) x x3)

subcommand_counted : (e : Marked SubcommandRecord) (rs : List Row) → subcommand_items (subcommand_entry rs e) ≤ counted subcommand_weight e.mark rs
unfolding names_in letters_in
subcommand_counted e [] = omega arith
subcommand_counted e (r ∷ rs) =
    omega (arith, subcommand_grows (r.owner == e.mark) r.list r.item (names_in e.mark SubcommandAliases rs) (names_in e.mark LongFlagAliases rs) (letters_in e.mark LetterFlagAliases rs), subcommand_counted e rs)

-- the items of a table are rows of its entries
table_sum : {X E : Type 0} (size : E → ℕ) (entry : Marked X → E) (w : ItemList → ℕ) (rs : List Row) → ((e : Marked X) → size (entry e) ≤ counted w e.mark rs)
    → (es : List (Marked X)) → summed size (map entry es) ≤ totals w (map (λ e. e.mark) es) rs
unfolding summed
table_sum size entry w rs each [] = omega arith
table_sum size entry w rs each (e ∷ es) = omega (arith, each e, table_sum size entry w rs each es)

pub marks_held : {X Y : Type 0} (f : X → Y) (es : List (Held X)) → marks es ≡ map (λ e. e.mark) (map (held f) es)
marks_held f [] = refl
marks_held f (e ∷ es) = ap (λ ms. e.mark ∷ ms) (marks_held f es)

table_few : {X Y E : Type 0} (size : E → ℕ) (entry : Marked Y → E) (w : ItemList → ℕ) (rs : List Row) → ((e : Marked Y) → size (entry e) ≤ counted w e.mark rs)
    → (f : X → Y) (es : List (Held X)) (top : ℕ) → climbing 1 (marks es) top ≡ true → summed size (map entry (map (held f) es)) ≤ weighed w rs
table_few size entry w rs each f es top up =
    let ms = map (λ e. e.mark) (map (held f) es) in
    let up' : climbing 1 ms top ≡ true = sym (ap (λ ks. climbing 1 ks top) (marks_held f es)) ∙ up in
    omega (arith, table_sum size entry w rs each (map (held f) es), totals_few w ms top rs up')

-- how many entries a table means
pub entries_long : {X Y E : Type 0} (f : X → Y) (entry : Y → E) (es : List X) → length (map entry (map f es)) ≡ length es
entries_long f entry es = length-map (map f es) entry ∙ length-map es f

-- the items of all arguments are rows
pub arg_items_few : (t : Tables) → summed arg_items (form_of (tables_marked t)).args ≤ 512
unfolding tables_marked
arg_items_few t =
    let rs = (tables_marked t).rows in
    omega (
      arith,
      table_few arg_items (arg_entry rs) arg_weight rs (λ e. arg_counted e rs) arg_held (vec_items t.args.list) t.next t.args_order,
      all_weighed rs,
      length-map (vec_items t.rows.list) row_held,
      t.rows.list.ok.0,
      t.rows.few,
    )

pub book_fits : (t : Tables) → Fits (form_of (tables_marked t))
unfolding tables_marked
book_fits t =
    let rs = (tables_marked t).rows in
    record {
      args = omega (arith, entries_long (held arg_held) (arg_entry rs) (vec_items t.args.list), t.args.list.ok.0, t.args.few);
      groups = omega (arith, entries_long (held name_bytes) (group_entry rs) (vec_items t.groups.list), t.groups.list.ok.0, t.groups.few);
      subcommands = omega (arith, entries_long (held subcommand_held) (subcommand_entry rs) (vec_items t.subcommands.list), t.subcommands.list.ok.0, t.subcommands.few);
      items =
          omega (
            arith,
            table_few arg_items (arg_entry rs) arg_weight rs (λ e. arg_counted e rs) arg_held (vec_items t.args.list) t.next t.args_order,
            table_few group_items (group_entry rs) group_weight rs (λ e. group_counted e rs) name_bytes (vec_items t.groups.list) t.next t.groups_order,
            table_few subcommand_items (subcommand_entry rs) subcommand_weight rs (λ e. subcommand_counted e rs) subcommand_held (vec_items t.subcommands.list) t.next t.subcommands_order,
            all_weighed rs,
            length-map (vec_items t.rows.list) row_held,
            t.rows.list.ok.0,
            t.rows.few,
          );
    }
