-- A form with its standard flags is within the limits, since the flags have no items.
use Rattle.std.specs.Prelude.{◌≡◌, ℕ, zero, suc, ◌+◌, ◌≤◌, Bool, true, false, List, [], ◌∷◌, ◌++◌, take, refl}
use Rattle.std.proofs.Common.{arith, length-take}
use Rattle.form.specs.Model.{Form}
use Rattle.form.specs.Limits.{Fits, summed, arg_items}
use Rattle.layers.specs.Flags.{help, version, where_wanted, wanted, wants_help, wants_version, with_flags}

summed_append : {X : Type 0} (size : X → ℕ) (xs ys : List X) → summed size (xs ++ ys) ≡ summed size xs + summed size ys
unfolding summed
summed_append size [] ys = omega arith
summed_append size (x ∷ xs) ys = omega (arith, summed_append size xs ys)

summed_take : {X : Type 0} (size : X → ℕ) (n : ℕ) (xs : List X) → summed size (take n xs) ≤ summed size xs
unfolding summed
summed_take size zero xs = omega arith
summed_take size (suc n) [] = omega arith
summed_take size (suc n) (x ∷ xs) = omega (arith, summed_take size n xs)

no_items : (h v : Bool) → summed arg_items (where_wanted h help ++ where_wanted v version) ≡ 0
unfolding summed
no_items true true = refl
no_items true false = refl
no_items false true = refl
no_items false false = refl

pub flags_fit : (f : Form) → Fits f → Fits (with_flags f)
flags_fit f fit = record {
  args = omega (arith, length-take 80 (f.args ++ wanted f));
  groups = fit.groups;
  subcommands = fit.subcommands;
  items = omega (arith, fit.items, summed_take arg_items 80 (f.args ++ wanted f), summed_append arg_items f.args (wanted f), no_items (wants_help f) (wants_version f));
}
