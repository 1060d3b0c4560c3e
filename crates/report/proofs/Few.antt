-- A form within its limits has fewer than 2^64 breaches, so that they can be counted.
use Rattle.std.proofs.Common.{◌≡◌, ℕ, zero, suc, ◌*◌, ◌^◌, ◌<◌, ◌≤◌, Bool, true, false, cond, eqb, leb, List, [], ◌∷◌, ◌++◌, map, length, take, drop, Some, None, Option, refl, ap, suc-mul, arith, length-append, length-drop, length-take}
use Rattle.std.proofs.lemmas.Nat.{mul-le}
use Rattle.std.proofs.lemmas.List.{length-map}
use Rattle.std.proofs.lemmas.Bool.{leb-true}
use Rattle.std.specs.List.{range_with_len}
use Rattle.std.specs.Str.{bytes_eq}
use Rattle.form.specs.Model.{Name, Arg, Group, Subcommand, Form}
use Rattle.form.specs.Keys.{listed}
use Rattle.form.specs.Limits.{Fits, summed, arg_items, group_items, subcommand_items}
use Rattle.rules.specs.declared.rule.Rule.{Rule}
use Rattle.rules.specs.declared.rule.Rule.TheVariants.{OpenBeforeOptional, MultipleElsewhere, TooManyMultiple}
use Rattle.rules.specs.declared.breach.Breach.{Breach}
use Rattle.rules.specs.Order.{each, blocks, when}
use Rattle.rules.proofs.TidyPlaces.{length_each}
use Rattle.rules.specs.Words.{Owner, owners, of_subcommand, of_argument, indices, position_count}
use Rattle.rules.specs.Rows.{ItemRow, own_item, missing_item, ArgRow, own, own_conflict, own_bit, later, items, whole, GroupRow, later_group, with_argument, missing_name, by_argument, by_group, at_ends, by_position, reference_lists, group_rows, arg_rows, trailing_rows, sections, flags, both_ends, ends_at, ends, first_at, highest, multiple_elsewhere, open_before_optional, multiple_low, too_many_wide}
use Rattle.rules.specs.Report.{item_report, arg_report, group_report, flags_report, long_flags, letter_flags, called, names_report, down, position_report, section_report, breaches}

-- P holds of every element
abbrev All : {X : Type 0} → (X → Type 0) → List X → Type 0
All P [] = Unit {0}
All P (x ∷ xs) = P x × All P xs

all_of : {X : Type 0} (P : X → Type 0) → ((x : X) → P x) → (xs : List X) → All P xs
all_of P p [] = tt
all_of P p (x ∷ xs) = (p x, all_of P p xs)

all_drop : {X : Type 0} (P : X → Type 0) (n : ℕ) (xs : List X) → All P xs → All P (drop n xs)
all_drop P zero xs a = a
all_drop P (suc n) [] a = tt
all_drop P (suc n) (x ∷ xs) a = all_drop P n xs a.1

all_take : {X : Type 0} (P : X → Type 0) (n : ℕ) (xs : List X) → All P xs → All P (take n xs)
all_take P zero xs a = tt
all_take P (suc n) [] a = tt
all_take P (suc n) (x ∷ xs) a = (a.0, all_take P n xs a.1)

all_append : {X : Type 0} (P : X → Type 0) (xs ys : List X) → All P xs → All P ys → All P (xs ++ ys)
all_append P [] ys a b = b
all_append P (x ∷ xs) ys a b = (a.0, all_append P xs ys a.1 b)

all_each : {A X : Type 0} (P : A → Type 0) (Q : X → Type 0) (g : ℕ → A → X) → ((n : ℕ) (a : A) → P a → Q (g n a)) → (n : ℕ) (xs : List A) → All P xs → All Q (each g n xs)
all_each P Q g k n [] a = tt
all_each P Q g k n (x ∷ xs) a = (k n x a.0, all_each P Q g k (suc n) xs a.1)

-- no element has more than all of them together
all_summed : {X : Type 0} (size : X → ℕ) (k : ℕ) (xs : List X) → summed size xs ≤ k → All (λ x. size x ≤ k) xs
unfolding summed
all_summed size k [] h = tt
all_summed size k (x ∷ xs) h = (omega arith, all_summed size k xs (omega arith))

blocks_cons : {X : Type 0} (g : ℕ → X → List Breach) (n : ℕ) (x : X) (xs : List X) → blocks g n (x ∷ xs) ≡ g n x ++ blocks g (suc n) xs
unfolding blocks
blocks_cons g n x xs = refl

blocks_nil : {X : Type 0} (g : ℕ → X → List Breach) (n : ℕ) → length (blocks g n []) ≡ 0
unfolding blocks
blocks_nil g n = refl

blocks_few : {X : Type 0} (P : X → Type 0) (g : ℕ → X → List Breach) (m : ℕ) → ((i : ℕ) (x : X) → P x → length (g i x) ≤ m) → (n : ℕ) (xs : List X) → All P xs → length (blocks g n xs) ≤ length xs * m
blocks_few P g m each_few n [] a = omega (arith, blocks_nil g n)
blocks_few P g m each_few n (x ∷ xs) a =
    let here = each_few n x a.0 in
    let rest = blocks_few P g m each_few (suc n) xs a.1 in
    let sum = ap length (blocks_cons g n x xs) in
    let long = length-append (g n x) (blocks g (suc n) xs) in
    let times = suc-mul (length xs) m in
    omega arith

-- at most k elements of at most m each
pub few_blocks : {X : Type 0} (P : X → Type 0) (g : ℕ → X → List Breach) (k m : ℕ) → ((i : ℕ) (x : X) → P x → length (g i x) ≤ m) → (n : ℕ) (xs : List X) → length xs ≤ k → All P xs → length (blocks g n xs) ≤ k * m
few_blocks P g k m each_few n xs le a = let h = blocks_few P g m each_few n xs a in let q = mul-le (length xs) m k m le (omega arith) in omega arith

one : (c : Bool) (b : Breach) → length (when c b) ≤ 1
one true b = omega arith
one false b = omega arith

one_of : (c : Bool) (b : Breach) (n : ℕ) → 1 ≤ n → length (when c b) ≤ n
one_of c b n h = let k = one c b in omega arith

-- where every element has at most m, whatever it is
few_any : {X : Type 0} (g : ℕ → X → List Breach) (k m : ℕ) → ((i : ℕ) (x : X) → length (g i x) ≤ m) → (n : ℕ) (xs : List X) → length xs ≤ k → length (blocks g n xs) ≤ k * m
few_any {X} g k m h n xs le = few_blocks (λ _. Unit {0}) g k m (λ i x _. h i x) n xs le (all_of (λ _. Unit {0}) (λ _. tt) xs)

wide : (n a b : ℕ) → n ≤ a → a ≤ b → n ≤ b
wide n a b h k = omega arith

-- an argument, group or subcommand has at most 1,024 items of each kind
abbrev ArgFew : Arg → Type 0
ArgFew a = arg_items a ≤ 1024

abbrev GroupFew : Group → Type 0
GroupFew g = group_items g ≤ 1024

abbrev SubcommandFew : Subcommand → Type 0
SubcommandFew s = subcommand_items s ≤ 1024

-- rows on items are at most three
abbrev small : ArgRow → Bool
small (own r c) = true
small (own_conflict r c) = true
small (own_bit r c) = true
small (later r c) = true
small (items rows) = leb (length rows) 3
small (whole r c) = true

item_few : (f : Form) (p : ℕ) (a : Arg) (l : _) (k : ℕ) (x : Name) (r : ItemRow) → length (item_report f p a l k x r) ≤ 1
item_few f p a l k x (own_item r c) = one _ _
item_few f p a l k x (missing_item r) = one _ _

list_few : (a : Arg) → ArgFew a → All (λ (l : _ × (Arg → List Name)). length (l.1 a) ≤ 1024) reference_lists
list_few a h = (omega arith, (omega arith, (omega arith, (omega arith, (omega arith, (omega arith, (omega arith, tt)))))))

-- seven lists of 1,024 items with three rules each is the most that a row tells of an argument
arg_few : (f : Form) → length f.args ≤ 80 → (p : ℕ) (a : Arg) → ArgFew a → (r : ArgRow) → small r ≡ true → length (arg_report f p a r) ≤ 21504
arg_few f n p a h (own r c) e = one_of _ _ 21504 (omega arith)
arg_few f n p a h (own_conflict r c) e = wide _ 1024 21504 (few_any _ 1024 1 (λ i x. one _ _) 0 a.conflicts (omega arith)) (omega arith)
arg_few f n p a h (own_bit r c) e = wide _ 12 21504 (few_any _ 12 1 (λ i x. one _ _) 0 (range_with_len 0 12) (omega arith)) (omega arith)
arg_few f n p a h (later r c) e =
    let le : length (drop (suc p) f.args) ≤ 80 = simp length-drop (omega arith) in
    wide _ 80 21504 (few_any _ 80 1 (λ i x. one _ _) (suc p) (drop (suc p) f.args) le) (omega arith)
arg_few f n p a h (items rows) e =
    let three = leb-true (length rows) 3 e in
    few_blocks (λ l. length (l.1 a) ≤ 1024) _ 7 3072
    (λ _ l u. few_any _ 1024 3 (λ k x. few_any _ 3 1 (λ _ r. item_few f p a l.0 k x r) 0 rows three) 0 (l.1 a) u)
    0 reference_lists (omega arith) (list_few a h)
arg_few f n p a h (whole r c) e = one_of _ _ 21504 (omega arith)

-- argument by argument
by_argument_few : (f : Form) → Fits f → (n : ℕ) (rows : List ArgRow) → length rows ≤ 19 → All (λ r. small r ≡ true) rows → length (section_report f (by_argument n rows)) ≤ 32686080
by_argument_few f h n rows le ok =
    few_blocks ArgFew _ 80 408576
    (λ p a u. few_blocks (λ r. small r ≡ true) _ 19 21504 (λ _ r e. arg_few f h.args p a u r e) 0 rows le ok)
    0 f.args h.args (all_summed arg_items 1024 f.args (omega (arith, h.items)))

-- group by group
abbrev NamesFew : Group → GroupRow → Type 0
NamesFew g (later_group r c) = Unit {0}
NamesFew g (with_argument r c) = Unit {0}
NamesFew g (missing_name r l names known) = length (names g) ≤ 1024

group_few : (f : Form) → Fits f → (p : ℕ) (g : Group) (r : GroupRow) → NamesFew g r → length (group_report f p g r) ≤ 1024
group_few f h p g (later_group r c) u =
    let le : length (drop (suc p) f.groups) ≤ 16 = simp length-drop (omega (arith, h.groups)) in
    wide _ 16 1024 (few_any _ 16 1 (λ i x. one _ _) (suc p) (drop (suc p) f.groups) le) (omega arith)
group_few f h p g (with_argument r c) u = wide _ 80 1024 (few_any _ 80 1 (λ i x. one _ _) 0 f.args h.args) (omega arith)
group_few f h p g (missing_name r l names known) u = few_any _ 1024 1 (λ i x. one _ _) 0 (names g) u

by_group_few : (f : Form) → Fits f → length (section_report f (by_group 31 group_rows)) ≤ 81920
by_group_few f h =
    few_blocks GroupFew _ 16 5120
    (λ p g u. few_blocks (NamesFew g) _ 5 1024 (λ _ r e. group_few f h p g r e) 0 group_rows (omega arith) (tt, (tt, (omega arith, (omega arith, (omega arith, tt))))))
    0 f.groups h.groups (all_summed group_items 1024 f.groups (omega (arith, h.items)))

-- the flags of owners
abbrev OwnerFew : Owner → Type 0
OwnerFew o = (length o.long_aliases ≤ 1024) × (length o.letter_aliases ≤ 1024)

owners_few : (f : Form) → Fits f → All OwnerFew (owners f)
owners_few f h =
    all_append OwnerFew (each of_subcommand 0 f.subcommands) (each of_argument 0 f.args)
    (all_each SubcommandFew OwnerFew of_subcommand (λ n s u. (omega arith, omega arith)) 0 f.subcommands (all_summed subcommand_items 1024 f.subcommands (omega (arith, h.items))))
    (all_each ArgFew OwnerFew of_argument (λ n a u. (omega arith, omega arith)) 0 f.args (all_summed arg_items 1024 f.args (omega (arith, h.items))))

owner_count : (f : Form) → Fits f → length (owners f) ≤ 112
owner_count f h = simp length-append (omega (arith, length_each of_subcommand 0 f.subcommands, length_each of_argument 0 f.args, h.args, h.subcommands))

flags_few : {X : Type 0} (same : X → X → Bool) (flags_of : Owner → List (Option X)) (r : Rule) → ((o : Owner) → OwnerFew o → length (flags_of o) ≤ 1025) → (os : List Owner) → length os ≤ 112 → All OwnerFew os → length (flags_report same flags_of r os) ≤ 13179040000
flags_few same flags_of r few os le all =
    few_blocks OwnerFew _ 112 117670000
    (λ i o u. few_any _ 1025 114800
    (λ k x. few_blocks OwnerFew _ 112 1025
    (λ _ w v. few_any _ 1025 1 (λ m y. one _ _) 0 (flags_of w) (few w v))
    (suc i) (drop (suc i) os) (simp length-drop (omega arith)) (all_drop OwnerFew (suc i) os all))
    0 (flags_of o) (few o u))
    0 os le all

flags_length : {X : Type 0} (own : Option X) (aliases : List X) → length aliases ≤ 1024 → length (flags own aliases) ≤ 1025
flags_length {X} o aliases h = let e : length (map (λ (x : X). Some x) aliases) ≡ length aliases = simp length-map in omega arith

-- the names of subcommands
names_few : (ss : List Subcommand) → length ss ≤ 32 → All SubcommandFew ss → length (names_report ss) ≤ 1075840000
names_few ss le all =
    few_blocks SubcommandFew _ 32 33620000
    (λ p s u. few_any _ 1025 32800
    (λ k x. few_blocks SubcommandFew _ 32 1025
    (λ q t v. few_any _ 1025 1 (λ m y. one _ _) 0 (called t) (omega arith))
    0 (take (suc p) ss) (simp length-take (omega arith)) (all_take SubcommandFew (suc p) ss all))
    0 (called s) (omega arith))
    0 ss le all

-- the two ends, and the positions
both_few : (o q : Option ℕ) → length (both_ends o q) ≤ 1
both_few None q = omega arith
both_few (Some p) None = omega arith
both_few (Some p) (Some q) = omega arith

ends_few : (f : Form) (c : Bool) (n : ℕ) → length (cond c (ends_at n f.args) []) ≤ 1
ends_few f true zero = omega arith
ends_few f true (suc n) = both_few (first_at (suc n) 0 f.args) (first_at n 0 f.args)
ends_few f false n = omega arith

at_ends_few : (f : Form) (r : Rule) (c : Form → Arg → Arg → Bool) → length (section_report f (at_ends r c)) ≤ 1
at_ends_few f r c = few_any _ 1 1 (λ i e. one _ _) 0 (ends f) (ends_few f (multiple_elsewhere f) (highest f))

position_few : (f : Form) (n : ℕ) (o : Option ℕ) → length (position_report f n o) ≤ 1
position_few f n None = omega arith
position_few f n (Some p) = one _ _

listed_few : (o : Option ℕ) → length (listed o) ≤ 1
listed_few None = omega arith
listed_few (Some n) = omega arith

indices_few : (xs : List Arg) → length (indices xs) ≤ length xs
indices_few [] = omega arith
indices_few (a ∷ xs) = simp length-append (omega (arith, listed_few a.index, indices_few xs))

length_down : (n : ℕ) → length (down n) ≡ n
length_down zero = refl
length_down (suc n) = ap suc (length_down n)

positions_few : (f : Form) → Fits f → length (section_report f by_position) ≤ 80
positions_few f h =
    few_any _ 80 1 (λ i n. position_few f n (first_at n 0 f.args)) 0 (down (position_count f))
    (omega (arith, length_down (position_count f), indices_few f.args, h.args))

abbrev bound : ℕ
bound = 13179040000

all_few : (f : Form) → Fits f → All (λ s. length (section_report f s) ≤ bound) sections
all_few f h =
    let subs = all_summed subcommand_items 1024 f.subcommands (omega (arith, h.items)) in
    let flags_in = owners_few f h in (
      one_of _ _ bound (omega arith),
      (
        wide _ 32686080 bound (by_argument_few f h 2 _ (omega arith) (refl, tt)) (omega arith),
        (
          wide _ 32 bound (few_any _ 32 1 (λ i s. one _ _) 0 f.subcommands h.subcommands) (omega arith),
          (
            wide _ 32686080 bound (by_argument_few f h 4 arg_rows (omega arith) (refl, (refl, (refl, (refl, (refl, (refl, (refl, (refl, (refl, (refl, (refl, (refl, (refl, (refl, (refl, (refl, (refl, (refl, (refl, tt)))))))))))))))))))) (omega arith),
            (
              wide _ 81920 bound (by_group_few f h) (omega arith),
              (
                flags_few bytes_eq long_flags _ (λ o u. flags_length o.long o.long_aliases u.0) (owners f) (owner_count f h) flags_in,
                (
                  flags_few eqb letter_flags _ (λ o u. flags_length o.letter o.letter_aliases u.1) (owners f) (owner_count f h) flags_in,
                  (
                    wide _ 1075840000 bound (names_few f.subcommands h.subcommands subs) (omega arith),
                    (
                      one_of _ _ bound (omega arith),
                      (
                        wide _ 32686080 bound (by_argument_few f h 41 trailing_rows (omega arith) (refl, (refl, (refl, tt)))) (omega arith),
                        (
                          wide _ 1 bound (at_ends_few f OpenBeforeOptional open_before_optional) (omega arith),
                          (
                            wide _ 1 bound (at_ends_few f MultipleElsewhere multiple_low) (omega arith),
                            (
                              wide _ 1 bound (at_ends_few f TooManyMultiple too_many_wide) (omega arith),
                              (
                                wide _ 80 bound (positions_few f h) (omega arith),
                                (
                                  wide _ 32686080 bound (by_argument_few f h 48 _ (omega arith) (refl, tt)) (omega arith),
                                  (
                                    wide _ 32686080 bound (by_argument_few f h 49 _ (omega arith) (refl, tt)) (omega arith),
                                    (
                                      one_of _ _ bound (omega arith),
                                      (
                                        one_of _ _ bound (omega arith),
                                        tt,
                                      ),
                                    ),
                                  ),
                                ),
                              ),
                            ),
                          ),
                        ),
                      ),
                    ),
                  ),
                ),
              ),
            ),
          ),
        ),
      ),
    )

pub few : (f : Form) → Fits f → length (breaches f) < 2 ^ 64
unfolding breaches
few f h = let k = few_blocks (λ s. length (section_report f s) ≤ bound) _ 18 bound (λ i s u. u) 0 sections (omega arith) (all_few f h) in omega arith
