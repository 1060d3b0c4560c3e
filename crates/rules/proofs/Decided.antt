-- The tests of the rows decide the words of the page: on one entry, on an item, on two entries, on a name and the ids.
use Rattle.std.proofs.Common.{◌≡◌, ℕ, zero, suc, ◌+◌, false, eqb, ◌⊎◌, List, [], ◌∷◌, map, length, is_some, Some, None, Decides, Option, sym, refl, ap, ◌∙◌, subst, inl, inr, arith}
use Rattle.std.specs.Str.{bytes_eq}
use Rattle.std.proofs.lemmas.Slice.Eq.{bytes_eq-Decides}
use Rattle.std.proofs.lemmas.Bool.{both_ways, not-true, not_from_false, or_parts, or_from, cond-true, cases_Bool}
use Rattle.form.specs.Model.{Name, Arg, Group, Form}
use Rattle.form.specs.declared.action.ArgAction.TheVariants.{Append, Version}
use Rattle.rules.specs.Order.{Stands, some}
use Rattle.rules.specs.Words.{Given, least, most, Open, Many, Multiple, Positional, Dashed, ArgNamed, GroupNamed, NoArg, Missing, Owner, Flag, Differ, Earlier, Wide}
use Rattle.rules.specs.Rows.{is_version, has_flag, positional, open_ended, many, multiple, wide, dashed, same_if, position, same_index, differ, earlier, flags, arg_ids, ids, missing}
use Rattle.rules.proofs.Spots.{nothing}
use Rattle.rules.proofs.Owners.{stands_left, stands_right, stands_either}
use Rattle.rules.proofs.Deciding.{decides_like, off, both, either, neither, equal, less, given, none, same_both, among, stands_map, map_stands}
use Rattle.rules.proofs.Coded.{same_action, same_kind}

-- one argument
pub version_decides : (a : Arg) → Decides (is_version a) (a.action ≡ Version)
version_decides a = same_action a.action Version

pub flag_decides : (a : Arg) → Decides (has_flag a) (Given a.letter ⊎ Given a.long)
flag_decides a = either (given a.letter) (given a.long)

pub positional_decides : (a : Arg) → Decides (positional a) (Positional a)
positional_decides a = (
  λ h. let k = or_parts (is_some a.letter) (is_some a.long) (not-true (has_flag a) h) in ((none a.letter).0 (not_from_false (is_some a.letter) k.0), (none a.long).0 (not_from_false (is_some a.long) k.1)),
  λ h. not_from_false (has_flag a) (or_from (is_some a.letter) (is_some a.long) (not-true (is_some a.letter) ((none a.letter).1 h.0)) (not-true (is_some a.long) ((none a.long).1 h.1))),
)

pub open_decides : (a : Arg) → Decides (open_ended a) (Open a)
open_decides a = neither (equal (least a) (most a))

pub many_decides : (a : Arg) → Decides (many a) (Many a)
many_decides a = either (open_decides a) (less 1 (least a))

pub multiple_decides : (a : Arg) → Decides (multiple a) (Multiple a)
multiple_decides a = either (many_decides a) (same_action a.action Append)

pub wide_decides : (a : Arg) → Decides (wide a) (Wide a)
wide_decides a = decides_like (λ (p, (m, (t, o))). (p, m, t, o)) (λ (p, m, t, o). (p, (m, (t, o))))
    (both (positional_decides a) (both (many_decides a) (both (off a.terminated) (open_decides a))))

pub dashed_decides : (o : Option Name) → Decides (dashed o) ((x : Name) × (o ≡ Some x) × Dashed x)
dashed_decides None = (λ h. absurd (both_ways false refl h), λ g. nothing g.0 g.1)
dashed_decides (Some []) = (λ h. absurd (both_ways false refl h), λ (x, e, (r, d)). let z : ◌≡◌ {A = ℕ} 0 1 = cc in absurd (omega arith))
dashed_decides (Some (c ∷ r)) = decides_like (λ e. (c ∷ r, refl, (r, ap (λ (k : ℕ). k ∷ r) e))) (λ (x, e, (t, d)). cc) (equal c 45)

-- two arguments
pub long_decides : (o w : Option Name) → Decides (same_if bytes_eq o w) ((x : Name) × (o ≡ Some x) × (w ≡ Some x))
long_decides = same_both bytes_eq bytes_eq-Decides

pub letter_decides : (o w : Option ℕ) → Decides (same_if eqb o w) ((x : ℕ) × (o ≡ Some x) × (w ≡ Some x))
letter_decides = same_both eqb equal

position_is : (a : Arg) (n : ℕ) → position a ≡ Some n → Positional a × (a.index ≡ Some n)
position_is a n h = elim (cases_Bool (positional a)) [ inl t ↦ ((positional_decides a).0 t, rw t at h) | inr t ↦ nothing n (rw t at h) ]

is_position : (a : Arg) (n : ℕ) → Positional a → a.index ≡ Some n → position a ≡ Some n
is_position a n p h = cond-true (positional a) a.index None ((positional_decides a).1 p) ∙ h

pub index_decides : (a b : Arg) → Decides (same_index a b) ((n : ℕ) × (Positional a × (a.index ≡ Some n)) × (Positional b × (b.index ≡ Some n)))
index_decides a b = decides_like (λ (n, e, w). (n, position_is a n e, position_is b n w)) (λ (n, (p, e), (q, w)). (n, is_position a n p e, is_position b n q w)) (letter_decides (position a) (position b))

-- the flags of two owners, and names one before another
pub differ_decides : (o w : Owner) → Decides (differ o w) (Differ o w)
differ_decides o w = neither (both (same_kind o.entry.kind w.entry.kind) (bytes_eq-Decides o.id w.id))

pub earlier_decides : (q m p k : ℕ) → Decides (earlier q m p k) (Earlier q m p k)
earlier_decides q m p k = either (less q p) (both (equal q p) (less m k))

pub flag_stands : {X : Type 0} (own : Option X) (aliases : List X) (k : ℕ) (o : Option X) (x : X) → Stands (flags own aliases) k o → o ≡ Some x → Flag own aliases k x
flag_stands own aliases zero o x s e = inl (refl, cc)
flag_stands own aliases (suc k) o x s e = let r = map_stands (λ z. Some z) aliases k o s in let q : r.0 ≡ x = let w = r.2 in cc in inr (k, refl, subst (Stands aliases k) q r.1)

pub stands_flag : {X : Type 0} (own : Option X) (aliases : List X) (k : ℕ) (x : X) → Flag own aliases k x → Stands (flags own aliases) k (Some x)
stands_flag own aliases k x (inl (z, e)) = subst (λ (i : ℕ). Stands (flags own aliases) i (Some x)) (sym z) (ap (λ w. Some w) e)
stands_flag own aliases k x (inr (n, z, s)) = subst (λ (i : ℕ). Stands (flags own aliases) i (Some x)) (sym z) (stands_map (λ w. Some w) aliases n x s)

-- a name and the ids
pub arg_named_decides : (f : Form) (x : Name) → Decides (some (bytes_eq x) (arg_ids f)) (ArgNamed f x)
arg_named_decides f x = decides_like
    (λ (i, y, s, e). let r = map_stands (λ (a : Arg). a.id) f.args i y s in (i, r.0, r.1, r.2 ∙ sym e))
    (λ (i, a, s, e). (i, a.id, stands_map (λ (b : Arg). b.id) f.args i a s, sym e))
    (among (bytes_eq x) (arg_ids f) (bytes_eq-Decides x))

named_decides : (f : Form) (x : Name) → Decides (some (bytes_eq x) (ids f)) (ArgNamed f x ⊎ GroupNamed f x)
named_decides f x = decides_like
    (λ (i, y, s, e). elim (stands_either (arg_ids f) (map (λ (g : Group). g.id) f.groups) i y s) [
      | inl t ↦ let r = map_stands (λ (a : Arg). a.id) f.args i y t in inl (i, r.0, r.1, r.2 ∙ sym e)
      | inr (j, q, t) ↦ let r = map_stands (λ (g : Group). g.id) f.groups j y t in inr (j, r.0, r.1, r.2 ∙ sym e)
    ])
    (elim [
      | inl (i, a, s, e) ↦ (i, a.id, stands_left (arg_ids f) (map (λ (g : Group). g.id) f.groups) i a.id (stands_map (λ (b : Arg). b.id) f.args i a s), sym e)
      | inr (i, g, s, e) ↦ (length (arg_ids f) + i, g.id, stands_right (arg_ids f) (map (λ (h : Group). h.id) f.groups) (length (arg_ids f) + i) i g.id refl (stands_map (λ (h : Group). h.id) f.groups i g s), sym e)
    ])
    (among (bytes_eq x) (ids f) (bytes_eq-Decides x))

pub no_arg_decides : (f : Form) (x : Name) → Decides (missing (arg_ids f) x) (NoArg f x)
no_arg_decides f x = neither (arg_named_decides f x)

pub missing_decides : (f : Form) (x : Name) → Decides (missing (ids f) x) (Missing f x)
missing_decides f x = decides_like (λ h. (λ a. h (inl a), λ g. h (inr g))) (λ h. elim [ inl a ↦ h.0 a | inr g ↦ h.1 g ]) (neither (named_decides f x))
