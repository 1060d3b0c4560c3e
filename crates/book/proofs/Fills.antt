-- Keys that are pushed one after another.
use Rattle.std.proofs.Common.{◌≡◌, ℕ, suc, ◌+◌, ◌<◌, ◌≤◌, true, false, cond, List, [], ◌∷◌, ◌++◌, map, length, get_or, drop, filter, Some, None, Option, sym, refl, ap, ◌∙◌, append_assoc, append-nil, add-one, arith, length-append}
use Rattle.std.specs.Option.{option_map}
use Rattle.std.proofs.lemmas.List.{length-map, map-append, at_drop_more, at_drop_all}
use Rattle.form.specs.Model.{Arg}
use Rattle.form.specs.Model as model
use Rattle.form.specs.declared.name.Name.{Name}
use Rattle.form.specs.declared.views.Key.{Key as HeldKey}
use Rattle.form.specs.Keys.{Key, KeyName, letter, long, listed, key_names, arg_keys, keys_from}
use Rattle.form.specs.declared.lists.ItemList.{ItemList}
use Rattle.calls.specs.Marked.{ItemOf, Row}
use Rattle.book_tables.specs.declared.held.ItemRow.{ItemRow}
use Rattle.book_tables.specs.Held.{row_held}
use Rattle.book_tables.specs.Rows.{row_adds, items_of}
use Rattle.book.specs.KeyRows.{key_held, keyed_at, alias_key}

-- one part of what is to come is pushed
pub part_pushed : {X : Type 0} (ks more here later rest all : List X) → rest ≡ here ++ later → more ≡ ks ++ here → ks ++ rest ≡ all → more ++ later ≡ all
part_pushed ks more here later rest all split pushed inv = ap (λ l. l ++ later) pushed ∙ append_assoc ks here later ∙ sym (ap (λ l. ks ++ l) split) ∙ inv

pub part_room : {X : Type 0} (ks start here later rest all : List X) → rest ≡ here ++ later → ks ++ rest ≡ start ++ all → length ks + length here ≤ length start + length all
part_room ks start here later rest all split inv =
    omega (arith, sym (length-append ks rest) ∙ ap length inv ∙ length-append start all, ap length split ∙ length-append here later)

pub none_left : {X : Type 0} (ks rest all : List X) → rest ≡ [] → ks ++ rest ≡ all → ks ≡ all
none_left ks rest all none inv = sym (ap (λ l. ks ++ l) none ∙ append-nil ks) ∙ inv

-- the keys of the aliases that rows have for the argument of a mark
abbrev pub alias_keys : ℕ → ItemList → ℕ → List ItemRow → List Key
alias_keys k l p rs = map (keyed_at p) (map alias_key (items_of k l (map row_held rs)))

abbrev pub row_keys : ℕ → ItemList → ℕ → ItemRow → List Key
row_keys k l p r = cond (row_adds k l (row_held r)) (keyed_at p (alias_key (row_held r).item) ∷ []) []

row_first : (k : ℕ) (l : ItemList) (p : ℕ) (r : ItemRow) (rs : List ItemRow) → alias_keys k l p (r ∷ rs) ≡ row_keys k l p r ++ alias_keys k l p rs
row_first k l p r rs =
    let see = λ (x : Row). keyed_at p (alias_key x.item) in
    elim (row_adds k l (row_held r))
    as (λ t. map (keyed_at p) (map alias_key (map (λ r. r.item) (cond t (row_held r ∷ filter (row_adds k l) (map row_held rs)) (filter (row_adds k l) (map row_held rs)))))
    ≡ cond t (keyed_at p (alias_key (row_held r).item) ∷ []) [] ++ alias_keys k l p rs)
    [ true ↦ refl | false ↦ refl ]

alias_here : (k : ℕ) (l : ItemList) (p : ℕ) (rs : List ItemRow) (i : ℕ) (r : ItemRow) → i < length rs → r ≡ get_or rs i r
    → alias_keys k l p (drop i rs) ≡ row_keys k l p r ++ alias_keys k l p (drop (i + 1) rs)
alias_here k l p rs i r lt read =
    at_drop_more (alias_keys k l p) rs i r lt ∙ row_first k l p _ _ ∙ ap (λ x. row_keys k l p x ++ alias_keys k l p (drop (i + 1) rs)) (sym read)

-- the key of a row that adds one is first, and a row that adds none is passed by
pub alias_added : (k : ℕ) (l : ItemList) (p : ℕ) (rs : List ItemRow) (i : ℕ) (r : ItemRow) → i < length rs → r ≡ get_or rs i r → row_adds k l (row_held r) ≡ true
    → alias_keys k l p (drop i rs) ≡ (keyed_at p (alias_key (row_held r).item) ∷ []) ++ alias_keys k l p (drop (i + 1) rs)
alias_added k l p rs i r lt read is = alias_here k l p rs i r lt read ∙ ap (λ t. cond t (keyed_at p (alias_key (row_held r).item) ∷ []) [] ++ alias_keys k l p (drop (i + 1) rs)) is

pub alias_passed : (k : ℕ) (l : ItemList) (p : ℕ) (rs : List ItemRow) (i : ℕ) (r : ItemRow) → i < length rs → r ≡ get_or rs i r → row_adds k l (row_held r) ≡ false
    → alias_keys k l p (drop i rs) ≡ alias_keys k l p (drop (i + 1) rs)
alias_passed k l p rs i r lt read is = alias_here k l p rs i r lt read ∙ ap (λ t. cond t (keyed_at p (alias_key (row_held r).item) ∷ []) [] ++ alias_keys k l p (drop (i + 1) rs)) is

pub alias_past : (k : ℕ) (l : ItemList) (p : ℕ) (rs : List ItemRow) (i : ℕ) → length rs ≤ i → alias_keys k l p (drop i rs) ≡ []
alias_past k l p rs i le = at_drop_all (alias_keys k l p) rs i le

pub keyed_long : {X Y Z : Type 0} (f : Y → Z) (g : X → Y) (xs : List X) → length (map f (map g xs)) ≡ length xs
keyed_long f g xs = length-map (map g xs) f ∙ length-map xs g

pub mapped_listed : {X Y : Type 0} (f : X → Y) (o : Option X) → listed (option_map f o) ≡ map f (listed o)
mapped_listed f None = refl
mapped_listed f (Some x) = refl

pub pushed_long : {X Y : Type 0} (f : X → Y) (ks more : List X) (ys : List Y) → map f more ≡ map f ks ++ ys → length more ≡ length ks + length ys
pushed_long f ks more ys e = sym (length-map more f) ∙ ap length e ∙ length-append (map f ks) ys ∙ ap (λ n. n + length ys) (length-map ks f)

-- how many keys there are once those of an option, or of a list, are pushed
pub listed_pushed : {X : Type 0} (p : ℕ) (ks more : List (HeldKey Name)) (o : Option KeyName) (f : X → KeyName) (x : Option X) → map key_held more ≡ map key_held ks ++ map (keyed_at p) (listed o)
    → o ≡ option_map f x → length more ≡ length ks + length (listed x)
listed_pushed p ks more o f x e is =
    pushed_long key_held ks more _ e ∙ ap (λ n. length ks + n) (length-map (listed o) (keyed_at p) ∙ ap (λ o. length (listed o)) is ∙ ap length (mapped_listed f x) ∙ length-map (listed x) f)

pub same_long : {X Y Z : Type 0} (f : X → Z) (g : Y → Z) (xs : List X) (ys : List Y) → map f xs ≡ map g ys → length ys ≡ length xs
same_long f g xs ys e = sym (length-map ys g) ∙ sym (ap length e) ∙ length-map xs f

pub aliases_pushed : {X : Type 0} (p : ℕ) (ks more : List (HeldKey Name)) (is : List ItemOf) (f : X → KeyName) (xs : List X) → map key_held more ≡ map key_held ks ++ map (keyed_at p) (map alias_key is)
    → map f xs ≡ map alias_key is → length more ≡ length ks + length xs
aliases_pushed p ks more is f xs e same = pushed_long key_held ks more _ e ∙ ap (λ n. length ks + n) (keyed_long (keyed_at p) alias_key is ∙ same_long f alias_key xs is same)

-- the keys of an argument without an index, in four parts
abbrev pub four : Option ℕ → Option model.Name → List ℕ → List model.Name → List KeyName
four c x cs xs = map letter (listed c) ++ (map long (listed x) ++ (map letter cs ++ map long xs))

pub parts_keyed : (p : ℕ) (a : Arg) → a.index ≡ None → arg_keys p a ≡ map (keyed_at p) (four a.letter a.long a.letter_aliases a.long_aliases)
parts_keyed p a e = ap (λ i. map (keyed_at p) (key_names i a)) e

pub parts_long : (p : ℕ) (a : Arg) → a.index ≡ None
    → length (arg_keys p a) ≡ length (listed a.letter) + (length (listed a.long) + (length a.letter_aliases + length a.long_aliases))
parts_long p a e = ap length (parts_keyed p a e) ∙ simp (length-map, length-append)

pub four_pushed : (p : ℕ) (a b c d : List KeyName) (k0 k1 k2 k3 k4 : List Key) → k1 ≡ k0 ++ map (keyed_at p) a → k2 ≡ k1 ++ map (keyed_at p) b → k3 ≡ k2 ++ map (keyed_at p) c → k4 ≡ k3 ++ map (keyed_at p) d
    → k4 ≡ k0 ++ map (keyed_at p) (a ++ (b ++ (c ++ d)))
four_pushed p a b c d k0 k1 k2 k3 k4 e1 e2 e3 e4 = rw (e4, e3, e2, e1) (simp (append_assoc, map-append))

-- the keys from a place on: those of the argument there, then those of the arguments to come
pub keys_here : {X Y : Type 0} (f : X → Y) (g : Y → Arg) (xs : List X) (i : ℕ) (x : X) → i < length xs → x ≡ get_or xs i x
    → keys_from i (map g (map f (drop i xs))) ≡ arg_keys i (g (f x)) ++ keys_from (i + 1) (map g (map f (drop (i + 1) xs)))
unfolding keys_from
keys_here f g xs i x lt read =
    at_drop_more (λ l. keys_from i (map g (map f l))) xs i x lt ∙ ap (λ y. arg_keys i (g (f y)) ++ keys_from (suc i) (map g (map f (drop (i + 1) xs)))) (sym read)
    ∙ ap (λ n. arg_keys i (g (f x)) ++ keys_from n (map g (map f (drop (i + 1) xs)))) (sym (add-one i))

pub keys_past : {X Y : Type 0} (f : X → Y) (g : Y → Arg) (xs : List X) (i : ℕ) → length xs ≤ i → keys_from i (map g (map f (drop i xs))) ≡ []
unfolding keys_from
keys_past f g xs i le = at_drop_all (λ l. keys_from i (map g (map f l))) xs i le
