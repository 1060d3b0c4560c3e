-- The owners of flags, by their numbers.
use Rattle.std.proofs.Common.{◌≡◌, ℕ, zero, suc, ◌+◌, ◌-◌, ◌<◌, ◌≤◌, Bool, true, false, cond, ltb, List, [], ◌∷◌, length, get_or, sym, refl, ap, ◌∙◌, le_of_suc-le-suc, add-zero, add-suc, suc-add, zero-add, arith, length-append, ltb-false, ltb-true}
use Rattle.std.proofs.lemmas.List.{get_or_append_left, get_or-append_right}
use Rattle.form.specs.Model.{Form, blank_arg, blank_subcommand}
use Rattle.form.specs.Limits.{Fits}
use Rattle.rules.specs.Order.{each}
use Rattle.rules.specs.Words.{Owner, owners, of_subcommand, of_argument}
use Rattle.rules.specs.Rows.{arg_of}
use Rattle.rules.proofs.TidyPlaces.{length_each}
use Rattle.survey.specs.FlagOwners.{owner_numbered}

get_or_each : {A X : Type 0} (g : ℕ → A → X) (n : ℕ) (xs : List A) (i : ℕ) (d : X) (b : A) → i < length xs → get_or (each g n xs) i d ≡ g (n + i) (get_or xs i b)
get_or_each g n [] i d b l = absurd (omega arith)
get_or_each g n (x ∷ xs) zero d b l = rw (add-zero n)
get_or_each g n (x ∷ xs) (suc i) d b l = get_or_each g (suc n) xs i d b (le_of_suc-le-suc l) ∙ ap (λ m. g m (get_or xs i b)) (suc-add n i ∙ sym (add-suc n i))

pub length_owners : (f : Form) → length (owners f) ≡ length f.subcommands + length f.args
length_owners f =
    rw (length-append, length_each of_subcommand 0 f.subcommands, length_each of_argument 0 f.args)

-- owner i is subcommand i, or an argument where there are no more subcommands
pub owners_at : (f : Form) (i : ℕ) (d : Owner) → i < length (owners f) → get_or (owners f) i d ≡ owner_numbered f i
owners_at f i d l = go (ltb i (length f.subcommands)) refl
  where
    go : (b : Bool) → ltb i (length f.subcommands) ≡ b → get_or (owners f) i d ≡ cond b (of_subcommand i (get_or f.subcommands i blank_subcommand)) (of_argument (i - length f.subcommands) (arg_of f (i - length f.subcommands)))
    go true e =
        let lt = ltb-true i (length f.subcommands) e in
        get_or_append_left (each of_subcommand 0 f.subcommands) (each of_argument 0 f.args) d i (rw length_each lt)
        ∙ get_or_each of_subcommand 0 f.subcommands i d blank_subcommand lt ∙ ap (λ m. of_subcommand m (get_or f.subcommands i blank_subcommand)) (zero-add i)
    go false e =
        let le = ltb-false i (length f.subcommands) e in
        let j : ℕ = i - length f.subcommands in
        let lt : j < length f.args = omega (arith, length_owners f) in
        get_or-append_right (each of_subcommand 0 f.subcommands) (each of_argument 0 f.args) (length f.subcommands) i d (length_each of_subcommand 0 f.subcommands) le
        ∙ get_or_each of_argument 0 f.args j d blank_arg lt ∙ ap (λ m. of_argument m (get_or f.args j blank_arg)) (zero-add j)

pub few_owners : (f : Form) → Fits f → length (owners f) ≤ 112
few_owners f fits = omega (arith, length_owners f, fits.args, fits.subcommands)
