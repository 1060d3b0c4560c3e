-- Names of subcommands that earlier ones take.
use Rattle.std.proofs.Common.{◌≡◌, ℕ, suc, ◌<◌, ◌≤◌, Bool, true, false, cond, ◌&&◌, [], length, get_or, take, Some, None, refl, arith}
use Rattle.std.specs.Str.{bytes_eq}
use Rattle.std.proofs.lemmas.List.{length-take-le, get_or-take}
use Rattle.form.specs.Model.{Name, Form, blank_subcommand}
use Rattle.form.specs.Limits.{Fits, subcommand_items}
use Rattle.rules.specs.Order.{when}
use Rattle.rules.specs.Told.{subcommand, of_flags}
use Rattle.rules.specs.Rows.{same_if, earlier}
use Rattle.rules.specs.Report.{called, taken_rule}
use Rattle.sinks.specs.Alike.{between}
use Rattle.survey.specs.Called.{subcommand_of, name_of, name_before, taken_told}
use Rattle.survey.specs.FlagOwners.{summed_at}
use Rattle.sinks.proofs.Walks.{between_is}

pub few_names : (f : Form) (p : ℕ) → Fits f → length (subcommand_of f p).aliases ≤ 1024
few_names f p fits = omega (arith, summed_at subcommand_items blank_subcommand f.subcommands p refl, fits.items)

same_before : (b : Bool) (x y : Name) → same_if bytes_eq (Some x) (cond b (Some y) None) ≡ (b && bytes_eq x y)
same_before true x y = refl
same_before false x y = refl

-- the twins among the names that come before are what is told
pub taken_twins : (f : Form) (p k q n : ℕ) (x : Name) → x ≡ name_of f p k → n ≡ length (called (subcommand_of f q))
    → between (λ m. when (same_if bytes_eq (Some x) (name_before f q m p k)) (of_flags (taken_rule k) (subcommand p) k (subcommand q) m)) 0 n ≡ taken_told f p k q
taken_twins f p k q n x e len =
    between_is (λ m. when (same_if bytes_eq (Some x) (name_before f q m p k)) (of_flags (taken_rule k) (subcommand p) k (subcommand q) m))
    (λ m y. when (earlier q m p k && bytes_eq (name_of f p k) y) (of_flags (taken_rule k) (subcommand p) k (subcommand q) m)) [] 0 n (called (subcommand_of f q)) len
    (λ m. rw (same_before (earlier q m p k) x (name_of f q m), e))

-- the subcommands up to p
pub up_to_length : (f : Form) (p : ℕ) → p < length f.subcommands → length (take (suc p) f.subcommands) ≡ suc p
up_to_length f p l = length-take-le (suc p) f.subcommands l

pub up_to_at : (f : Form) (p q : ℕ) → q < suc p → get_or (take (suc p) f.subcommands) q blank_subcommand ≡ subcommand_of f q
up_to_at f p q l = get_or-take (suc p) f.subcommands q blank_subcommand l
