-- The owners of flags, by their numbers.
use Rattle.std.specs.Prelude.{◌≡◌, ℕ, zero, suc, ◌-◌, ◌≤◌, Bool, cond, List, [], ◌∷◌, length, drop, None, Option, nat_lt, slice_index_or, refl}
use Rattle.std.proofs.Common.{arith}
use Rattle.form.specs.Model.{Form, blank_arg, blank_subcommand}
use Rattle.form.specs.Limits.{Fits, arg_items, subcommand_items, summed}
use Rattle.rules.specs.declared.rule.Rule.{Rule}
use Rattle.rules.specs.declared.breach.Breach.{Breach}
use Rattle.rules.specs.Order.{blocks}
use Rattle.rules.specs.Words.{Owner, owners, of_subcommand, of_argument}
use Rattle.rules.specs.Rows.{arg_of, flags}
use Rattle.rules.specs.Report.{clash_report}
use Rattle.survey.specs.declared.flag_owners.FlagOwner.{FlagOwner}
use Rattle.survey.specs.declared.flag_owners.FlagOwner.TheVariants.{Subcommand, Argument}

-- an owner of the form, told by its place in its table
abbrev pub owner_in : Form → FlagOwner → Owner
owner_in f (Subcommand p) = of_subcommand p (slice_index_or f.subcommands p blank_subcommand)
owner_in f (Argument p) = of_argument p (arg_of f p)

-- owner n: the subcommands come first, then the arguments
abbrev pub owner_numbered : Form → ℕ → Owner
owner_numbered f n =
    cond (nat_lt n (length f.subcommands))
    (of_subcommand n (slice_index_or f.subcommands n blank_subcommand))
    (of_argument (n - length f.subcommands) (arg_of f (n - length f.subcommands)))

-- the flags of an owner, its own first
abbrev pub flags_in : {X : Type 0} → (Owner → Option X) → (Owner → List X) → Owner → List (Option X)
flags_in own aliases o = flags (own o) (aliases o)

-- what flag k of the owner o tells of the flags of the owner w
abbrev pub clash_told : {X : Type 0} → (X → X → Bool) → (Owner → List (Option X)) → Rule → Owner → ℕ → Owner → List Breach
clash_told same flags_of r o k w = clash_report same r o k (slice_index_or (flags_of o) k None) w (flags_of w)

-- what flag k of owner i tells of the flags of later owners
abbrev pub flag_told : {X : Type 0} → (X → X → Bool) → (Owner → List (Option X)) → Rule → Form → ℕ → ℕ → List Breach
flag_told same flags_of r f i k = blocks (λ _ w. clash_told same flags_of r (owner_numbered f i) k w) (suc i) (drop (suc i) (owners f))

-- what the flags of owner i tell of them
abbrev pub owner_told : {X : Type 0} → (X → X → Bool) → (Owner → List (Option X)) → Rule → Form → ℕ → List Breach
owner_told same flags_of r f i =
    blocks (λ k x. blocks (λ _ w. clash_report same r (owner_numbered f i) k x w (flags_of w)) (suc i) (drop (suc i) (owners f))) 0 (flags_of (owner_numbered f i))

-- The items of a form are few, so an owner's aliases are.
pub summed_at : {X : Type 0} (size : X → ℕ) (d : X) (xs : List X) (p : ℕ) → size d ≡ 0 → size (slice_index_or xs p d) ≤ summed size xs
unfolding summed
summed_at size d [] p e = omega arith
summed_at size d (x ∷ xs) zero e = omega arith
summed_at size d (x ∷ xs) (suc p) e = omega (arith, summed_at size d xs p e)

pub few_longs : (f : Form) → Fits f → (o : FlagOwner) → length (owner_in f o).long_aliases ≤ 1024
few_longs f fits (Subcommand p) = omega (arith, summed_at subcommand_items blank_subcommand f.subcommands p refl, fits.items)
few_longs f fits (Argument p) = omega (arith, summed_at arg_items blank_arg f.args p refl, fits.items)

pub few_letters : (f : Form) → Fits f → (o : FlagOwner) → length (owner_in f o).letter_aliases ≤ 1024
few_letters f fits (Subcommand p) = omega (arith, summed_at subcommand_items blank_subcommand f.subcommands p refl, fits.items)
few_letters f fits (Argument p) = omega (arith, summed_at arg_items blank_arg f.args p refl, fits.items)
