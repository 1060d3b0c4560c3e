-- The sections of a report, as a relation with the tables' own tests; and that each section's report lists it in order.
use Rattle.std.proofs.Common.{◌≡◌, ℕ, zero, suc, ◌+◌, ◌-◌, ◌<◌, ◌≤◌, Bool, true, false, cond, not, ◌&&◌, eqb, leb, List, [], ◌∷◌, Some, None, Option, refl, ap, ◌∙◌, subst, arith}
use Rattle.std.specs.Str.{bytes_eq}
use Rattle.std.proofs.lemmas.Bool.{and_parts, eqb-true, not-true}
use Rattle.form.specs.Model.{Arg, Subcommand, Form, blank_arg}
use Rattle.form.specs.Settings.{arg_set}
use Rattle.form.specs.declared.arg_settings.ArgSettings.TheVariants.{Required}
use Rattle.rules.specs.declared.rule.Rule.{Rule}
use Rattle.rules.specs.declared.rule.Rule.TheVariants.{OptionalBeforeRequired}
use Rattle.rules.specs.declared.breach.Breach.{Breach}
use Rattle.rules.specs.Order.{Stands}
use Rattle.rules.specs.Numbers.{rule_number}
use Rattle.rules.specs.Told.{argument, subcommand, of_form, of_one, of_two, of_flags}
use Rattle.rules.specs.Words.{Owner, owners, index_or_0, position_count}
use Rattle.rules.specs.Rank.{section, phase, on_owners, rank}
use Rattle.rules.specs.Rows.{Section, of_the_form, by_argument, by_subcommand, by_group, by_long_flag, by_letter_flag, by_subcommand_name, at_ends, by_position, sections, same_if, differ, earlier, multiple_elsewhere, highest, both_ends, ends_at, ends, arg_of, first_at, settled_above}
use Rattle.rules.specs.Report.{flags_report, long_flags, letter_flags, called, taken_rule, names_report, down, position_report, section_report, breaches}
use Rattle.rules.proofs.Spots.{Among, every, every_stands, stands_getD}
use Rattle.rules.proofs.Listing.{Begins, Listed, listed_like, listed_none, listed_wide, listed_places, listed_table, listed_later, listed_earlier, listed_leaf, listed_blocks, Rising, rising}
use Rattle.rules.proofs.Shapes.{Told, Argument, Grouped, fit, told, arg_number, group_number, arg_fit, group_fit, arg_listed, group_listed}
use Rattle.rules.proofs.Owners.{owner_spot}
use Rattle.rules.proofs.Firsts.{found_first}

-- flags of two owners in a row clash
abbrev pub Clash : {X : Type 0} → (X → X → Bool) → (Owner → List (Option X)) → Rule → List Owner → Breach → Type 0
Clash same flags_of r os b = Among os (λ i o. Among (flags_of o) (λ k x. Among os (λ j w. (i < j) × Among (flags_of w) (λ m y. Told (same_if same x y && differ o w) (of_flags r o.entry k w.entry m) b))))

-- a name of a subcommand is an earlier name
abbrev pub Taken : List Subcommand → Breach → Type 0
Taken ss b = Among ss (λ p s. Among (called s) (λ k x. Among ss (λ q t. (q < suc p) × Among (called t) (λ m y. Told (earlier q m p k && bytes_eq x y) (of_flags (taken_rule k) (subcommand p) k (subcommand q) m) b))))

-- the first argument of the position n is passed over
abbrev pub Passed : Form → ℕ → Option ℕ → Breach → Type 0
Passed f n o b = (p : ℕ) × (o ≡ Some p) × Told (not (arg_set (arg_of f p).settings Required) && settled_above f n) (of_one OptionalBeforeRequired (argument p)) b

-- the section tells b
abbrev pub Sectioned : Form → Breach → Section → Type 0
Sectioned f b (of_the_form r c) = Told (c f) (of_form r) b
Sectioned f b (by_argument _ rows) = Among f.args (λ p a. Among rows (λ _ r. Argument f p a b r))
Sectioned f b (by_subcommand r c) = Among f.subcommands (λ p s. Told (c s) (of_one r (subcommand p)) b)
Sectioned f b (by_group _ rows) = Among f.groups (λ p g. Among rows (λ _ r. Grouped f p g b r))
Sectioned f b (by_long_flag r) = Clash bytes_eq long_flags r (owners f) b
Sectioned f b (by_letter_flag r) = Clash eqb letter_flags r (owners f) b
Sectioned f b by_subcommand_name = Taken f.subcommands b
Sectioned f b (at_ends r c) = Among (ends f) (λ _ e. Told (c f (arg_of f e.0) (arg_of f e.1)) (of_two r (argument e.0) (argument e.1)) b)
Sectioned f b by_position = Among (down (position_count f)) (λ _ n. Passed f n (first_at n 0 f.args) b)

-- the flags of owners go by the places in their row
abbrev flags_fit : ℕ → Bool
flags_fit n = eqb (section n) n && (eqb (phase n) n && (not (eqb n 47) && ((leb 36 n && leb n 39) && on_owners n)))

flags_rank : (f : Form) (r : Rule) (i k j m : ℕ) (o w : Owner) → flags_fit (rule_number r) ≡ true → Stands (owners f) i o → Stands (owners f) j w
    → rank f (of_flags r o.entry k w.entry m) ≡ rule_number r ∷ 0 ∷ i ∷ k ∷ rule_number r ∷ j ∷ m ∷ 0 ∷ k ∷ rule_number r ∷ []
flags_rank f r i k j m o w h s t =
    let n = rule_number r in
    let x = and_parts (eqb (section n) n) _ h in
    let y = and_parts (eqb (phase n) n) _ x.1 in
    let z = and_parts (not (eqb n 47)) _ y.1 in
    let v = and_parts (leb 36 n && leb n 39) _ z.1 in
    let a = eqb-true (section n) n x.0 in
    let b = eqb-true (phase n) n y.0 in
    let c = not-true (eqb n 47) z.0 in
    let d = v.0 in
    let e = v.1 in
    let p = owner_spot f i o s in
    let q = owner_spot f j w t in
    rw (a, b, c, d, e, p, q)

clash_listed : {X : Type 0} (same : X → X → Bool) (flags_of : Owner → List (Option X)) (f : Form) (r : Rule) → flags_fit (rule_number r) ≡ true
    → Listed (rank f) (Begins (rule_number r ∷ [])) (λ b. Clash same flags_of r (owners f) b) (flags_report same flags_of r (owners f))
clash_listed same flags_of f r h =
    let n = rule_number r in
    listed_wide (n ∷ []) (0 ∷ []) (listed_places (n ∷ 0 ∷ []) (owners f) (λ i o s.
    listed_places (n ∷ 0 ∷ i ∷ []) (flags_of o) (λ k x _.
    listed_wide (n ∷ 0 ∷ i ∷ k ∷ []) (n ∷ []) (listed_later (n ∷ 0 ∷ i ∷ k ∷ n ∷ []) i (owners f) (λ j w _ t.
    listed_places (n ∷ 0 ∷ i ∷ k ∷ n ∷ j ∷ []) (flags_of w) (λ m y _.
    listed_leaf 7 (n ∷ 0 ∷ i ∷ k ∷ n ∷ j ∷ m ∷ 0 ∷ k ∷ n ∷ []) (λ _. flags_rank f r i k j m o w h s t)))))))

taken_rank : (f : Form) (p k q m : ℕ) → rank f (of_flags (taken_rule k) (subcommand p) k (subcommand q) m) ≡ 38 ∷ 0 ∷ p ∷ k ∷ 38 ∷ q ∷ m ∷ 0 ∷ k ∷ rule_number (taken_rule k) ∷ []
taken_rank f p zero q m = refl
taken_rank f p (suc k) q m = refl

taken_listed : (f : Form) → Listed (rank f) (Begins (38 ∷ [])) (λ b. Taken f.subcommands b) (names_report f.subcommands)
taken_listed f =
    listed_wide (38 ∷ []) (0 ∷ []) (listed_places (38 ∷ 0 ∷ []) f.subcommands (λ p s _.
    listed_places (38 ∷ 0 ∷ p ∷ []) (called s) (λ k x _.
    listed_wide (38 ∷ 0 ∷ p ∷ k ∷ []) (38 ∷ []) (listed_earlier (38 ∷ 0 ∷ p ∷ k ∷ 38 ∷ []) (suc p) f.subcommands (λ q t _ _.
    listed_places (38 ∷ 0 ∷ p ∷ k ∷ 38 ∷ q ∷ []) (called t) (λ m y _.
    listed_leaf 7 (38 ∷ 0 ∷ p ∷ k ∷ 38 ∷ q ∷ m ∷ 0 ∷ k ∷ rule_number (taken_rule k) ∷ []) (λ _. taken_rank f p k q m)))))))

-- the two ends are told at most once
both_rise : (o q : Option ℕ) → Rising (λ (i : ℕ) (e : ℕ × ℕ). e.0) 0 0 (both_ends o q)
both_rise None q = tt
both_rise (Some p) None = tt
both_rise (Some p) (Some q) = (omega arith, tt)

ends_at_rise : (n : ℕ) (l : List Arg) → Rising (λ (i : ℕ) (e : ℕ × ℕ). e.0) 0 0 (ends_at n l)
ends_at_rise zero l = tt
ends_at_rise (suc n) l = both_rise (first_at (suc n) 0 l) (first_at n 0 l)

ends_rise : (f : Form) → Rising (λ (i : ℕ) (e : ℕ × ℕ). e.0) 0 0 (ends f)
ends_rise f = at (multiple_elsewhere f) (ends_at (highest f) f.args) (ends_at_rise (highest f) f.args)
  where
    at : (c : Bool) (l : List (ℕ × ℕ)) → Rising (λ (i : ℕ) (e : ℕ × ℕ). e.0) 0 0 l → Rising (λ (i : ℕ) (e : ℕ × ℕ). e.0) 0 0 (cond c l [])
    at true l h = h
    at false l h = tt

-- positions, downwards
pub stands_down : (N k n : ℕ) → Stands (down N) k n → (n + k ≡ N) × (1 ≤ n)
stands_down zero k n s = let z : ◌≡◌ {A = ℕ} 0 1 = let e : None ≡ Some n = s in cc in absurd (omega arith)
stands_down (suc N) zero n s = let q : suc N ≡ n = cc in (omega arith, omega arith)
stands_down (suc N) (suc k) n s = let h = stands_down N k n s in (omega (arith, h.0), h.1)

pub down_stands : (N k n : ℕ) → n + k ≡ N → 1 ≤ n → Stands (down N) k n
down_stands zero k n e lo = absurd (omega arith)
down_stands (suc N) zero n e lo = let q : suc N ≡ n = omega arith in ap (λ x. Some x) q
down_stands (suc N) (suc k) n e lo = down_stands N k n (omega arith) lo

position_rank : (f : Form) (p n k : ℕ) → n + k ≡ position_count f → first_at n 0 f.args ≡ Some p
    → rank f (of_one OptionalBeforeRequired (argument p)) ≡ 47 ∷ k ∷ p ∷ 0 ∷ 47 ∷ 0 ∷ 0 ∷ 0 ∷ 0 ∷ 47 ∷ []
position_rank f p n k e h =
    let w = found_first f n p h in
    let g = stands_getD f.args p w.0 blank_arg w.1.stands in
    let d : index_or_0 (arg_of f p).index ≡ n = ap (λ (x : Arg). index_or_0 x.index) g ∙ ap index_or_0 w.1.index in
    let q : position_count f - index_or_0 (arg_of f p).index ≡ k = omega arith in
    ap (λ (x : ℕ). 47 ∷ x ∷ p ∷ 0 ∷ 47 ∷ 0 ∷ 0 ∷ 0 ∷ 0 ∷ 47 ∷ []) q

passed_listed : (f : Form) (n k : ℕ) (o : Option ℕ) → n + k ≡ position_count f → first_at n 0 f.args ≡ o → Listed (rank f) (Begins (47 ∷ k ∷ [])) (λ b. Passed f n o b) (position_report f n o)
passed_listed f n k None e h = listed_none (λ x b. let q : None ≡ Some b.0 = b.1 in let z : ◌≡◌ {A = ℕ} 0 1 = cc in omega arith)
passed_listed f n k (Some p) e h = listed_like
    (λ b t. (p, refl, t))
    (λ b t. let q : Some p ≡ Some t.0 = t.1 in let w : t.0 ≡ p = cc in subst (λ (i : ℕ). Told (not (arg_set (arg_of f i).settings Required) && settled_above f n) (of_one OptionalBeforeRequired (argument i)) b) w t.2)
    (λ r u. u)
    (listed_leaf 2 (47 ∷ k ∷ p ∷ 0 ∷ 47 ∷ 0 ∷ 0 ∷ 0 ∷ 0 ∷ 47 ∷ []) (λ _. position_rank f p n k e h))

-- the rows of a table fit its section, and rise
abbrev section_number : Section → ℕ
section_number (of_the_form r c) = rule_number r
section_number (by_argument n rows) = n
section_number (by_subcommand r c) = rule_number r
section_number (by_group n rows) = n
section_number (by_long_flag r) = rule_number r
section_number (by_letter_flag r) = rule_number r
section_number by_subcommand_name = 38
section_number (at_ends r c) = rule_number r
section_number by_position = 47

abbrev section_fit : Section → Bool
section_fit (of_the_form r c) = fit (rule_number r) (rule_number r) (rule_number r)
section_fit (by_argument n rows) = rising arg_number 0 rows && every (arg_fit n) rows
section_fit (by_subcommand r c) = fit (rule_number r) (rule_number r) (rule_number r)
section_fit (by_group n rows) = rising group_number 0 rows && every (group_fit n) rows
section_fit (by_long_flag r) = flags_fit (rule_number r)
section_fit (by_letter_flag r) = flags_fit (rule_number r)
section_fit by_subcommand_name = true
section_fit (at_ends r c) = fit (rule_number r) (rule_number r) (rule_number r)
section_fit by_position = true

section_listed : (f : Form) (s : Section) → section_fit s ≡ true → Listed (rank f) (Begins (section_number s ∷ [])) (λ b. Sectioned f b s) (section_report f s)
section_listed f (of_the_form r c) h = told f (rule_number r) (rule_number r) 1 h
section_listed f (by_argument n rows) h =
    let t = and_parts (rising arg_number 0 rows) _ h in
    listed_wide (n ∷ []) (0 ∷ []) (listed_places (n ∷ 0 ∷ []) f.args (λ p a _.
    listed_wide (n ∷ 0 ∷ p ∷ []) (0 ∷ []) (listed_table (n ∷ 0 ∷ p ∷ 0 ∷ []) arg_number rows t.0 (λ k r u. arg_listed f n p a r (every_stands (arg_fit n) rows t.1 k r u)))))
section_listed f (by_subcommand r c) h = listed_wide (rule_number r ∷ []) (0 ∷ []) (listed_places (rule_number r ∷ 0 ∷ []) f.subcommands (λ p s _. told f (rule_number r) (rule_number r) 3 h))
section_listed f (by_group n rows) h =
    let t = and_parts (rising group_number 0 rows) _ h in
    listed_wide (n ∷ []) (0 ∷ []) (listed_places (n ∷ 0 ∷ []) f.groups (λ p g _.
    listed_wide (n ∷ 0 ∷ p ∷ []) (0 ∷ []) (listed_table (n ∷ 0 ∷ p ∷ 0 ∷ []) group_number rows t.0 (λ k r u. group_listed f n p g r (every_stands (group_fit n) rows t.1 k r u)))))
section_listed f (by_long_flag r) h = clash_listed bytes_eq long_flags f r h
section_listed f (by_letter_flag r) h = clash_listed eqb letter_flags f r h
section_listed f by_subcommand_name h = taken_listed f
section_listed f (at_ends r c) h = listed_wide (rule_number r ∷ []) (0 ∷ []) (listed_blocks (rule_number r ∷ 0 ∷ []) (λ i e. e.0) (ends f) (ends_rise f) (λ i e _. told f (rule_number r) (rule_number r) 3 h))
section_listed f by_position h = listed_places (47 ∷ []) (down (position_count f)) (λ k n s. passed_listed f n k (first_at n 0 f.args) (stands_down (position_count f) k n s).0 refl)

-- what some section tells
abbrev pub Reported : Form → Breach → Type 0
Reported f b = Among sections (λ _ s. Sectioned f b s)

pub breaches_listed : (f : Form) → Listed (rank f) (Begins []) (Reported f) (breaches f)
unfolding breaches
breaches_listed f = listed_table [] section_number sections refl (λ k s t. section_listed f s (every_stands section_fit sections refl k s t))
