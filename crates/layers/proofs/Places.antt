-- What stands at a place of a form with its standard flags.
use Rattle.std.proofs.Common.{◌≡◌, ℕ, zero, suc, ◌+◌, ◌-◌, ◌<◌, ◌≤◌, Bool, true, false, List, [], ◌∷◌, ◌++◌, length, get_or, take, Option, sym, refl, ap, ◌∙◌, arith, length-append, length-take}
use Rattle.std.specs.List.{slice_get}
use Rattle.std.specs.Option.{unwrap_or}
use Rattle.std.proofs.lemmas.Option.{unwrap_or-slice_get}
use Rattle.std.proofs.lemmas.List.{get_or_append_left, get_or-append_right}
use Rattle.form.specs.Model.{Arg, Form, blank_arg}
use Rattle.form.specs.Lists.{names_at, letters_at}
use Rattle.form.specs.declared.lists.ItemList.{ItemList}
use Rattle.form.specs.declared.lists.ItemList.TheVariants.{Requires, RIfs, RIfsAll, RUnless, RUnlessAll, Conflicts, Overrides, LongAliases, LetterAliases, Members, GroupRequires, GroupConflicts, SubcommandAliases, LongFlagAliases, LetterFlagAliases}
use Rattle.layers.specs.Flags.{help, version, where_wanted, wanted, wants_help, wants_version, with_flags}
use Rattle.layers.specs.Room.{fitting}

take_past : {X : Type 0} (n : ℕ) (xs ys : List X) → length xs ≤ n → take n (xs ++ ys) ≡ xs ++ take (n - length xs) ys
take_past n [] ys h = let e : n ≡ n - 0 = omega arith in ap (λ k. take k ys) e
take_past zero (x ∷ xs) ys h = absurd (omega arith)
take_past (suc n) (x ∷ xs) ys h =
    let e : n - length xs ≡ suc n - suc (length xs) = omega arith in
    ap (λ t. x ∷ t) (take_past n xs ys (omega arith) ∙ ap (λ k. xs ++ take k ys) e)

-- the form's own arguments all stay, and the flags that fit follow
pub args_split : (f : Form) → length f.args ≤ 80 → (with_flags f).args ≡ f.args ++ fitting f
args_split f h = take_past 80 f.args (wanted f) h

abbrev two : Bool → Bool → List Arg
two h v = where_wanted h help ++ where_wanted v version

take_none : {X : Type 0} (n : ℕ) → take {A = X} n [] ≡ []
take_none zero = refl
take_none (suc n) = refl

-- what a flag and a blank argument have in common is not changed by the layer
like_blank : {X : Type 0} (part : Arg → X) → part help ≡ part blank_arg → part version ≡ part blank_arg
    → (k p : ℕ) (h v : Bool) → part (get_or (take k (two h v)) p blank_arg) ≡ part blank_arg
like_blank part a b zero p h v = refl
like_blank part a b (suc k) zero true v = a
like_blank part a b (suc k) zero false true = b
like_blank part a b (suc k) zero false false = refl
like_blank part a b (suc zero) (suc p) true true = refl
like_blank part a b (suc (suc k)) (suc zero) true true = b
like_blank part a b (suc (suc k)) (suc (suc p)) true true = ap (λ xs. part (get_or xs p blank_arg)) (take_none {X = Arg} k)
like_blank part a b (suc k) (suc p) true false = ap (λ xs. part (get_or xs p blank_arg)) (take_none {X = Arg} k)
like_blank part a b (suc k) (suc p) false true = ap (λ xs. part (get_or xs p blank_arg)) (take_none {X = Arg} k)
like_blank part a b (suc k) (suc p) false false = refl

kept_from : {X : Type 0} (part : Arg → X) → part help ≡ part blank_arg → part version ≡ part blank_arg
    → (n : ℕ) (xs : List Arg) (p : ℕ) (h v : Bool) → length xs ≤ n
    → part (get_or (take n (xs ++ two h v)) p blank_arg) ≡ part (get_or xs p blank_arg)
kept_from part a b n [] p h v le = like_blank part a b n p h v
kept_from part a b zero (x ∷ xs) p h v le = absurd (omega arith)
kept_from part a b (suc n) (x ∷ xs) zero h v le = refl
kept_from part a b (suc n) (x ∷ xs) (suc p) h v le = kept_from part a b n xs p h v (omega arith)

kept : {X : Type 0} (part : Arg → X) → part help ≡ part blank_arg → part version ≡ part blank_arg
    → (f : Form) (p : ℕ) → length f.args ≤ 80 → part (get_or (with_flags f).args p blank_arg) ≡ part (get_or f.args p blank_arg)
kept part a b f p le = kept_from part a b 80 f.args p (wants_help f) (wants_version f) le

pub names_kept : (f : Form) (l : ItemList) (p : ℕ) → length f.args ≤ 80 → names_at f l p ≡ names_at (with_flags f) l p
names_kept f Requires p le = sym (kept (λ a. a.requires) refl refl f p le)
names_kept f RIfs p le = sym (kept (λ a. a.r_ifs) refl refl f p le)
names_kept f RIfsAll p le = sym (kept (λ a. a.r_ifs_all) refl refl f p le)
names_kept f RUnless p le = sym (kept (λ a. a.r_unless) refl refl f p le)
names_kept f RUnlessAll p le = sym (kept (λ a. a.r_unless_all) refl refl f p le)
names_kept f Conflicts p le = sym (kept (λ a. a.conflicts) refl refl f p le)
names_kept f Overrides p le = sym (kept (λ a. a.overrides) refl refl f p le)
names_kept f LongAliases p le = sym (kept (λ a. a.long_aliases) refl refl f p le)
names_kept f LetterAliases p le = refl
names_kept f Members p le = refl
names_kept f GroupRequires p le = refl
names_kept f GroupConflicts p le = refl
names_kept f SubcommandAliases p le = refl
names_kept f LongFlagAliases p le = refl
names_kept f LetterFlagAliases p le = refl

pub letters_kept : (f : Form) (l : ItemList) (p : ℕ) → length f.args ≤ 80 → letters_at f l p ≡ letters_at (with_flags f) l p
letters_kept f Requires p le = refl
letters_kept f RIfs p le = refl
letters_kept f RIfsAll p le = refl
letters_kept f RUnless p le = refl
letters_kept f RUnlessAll p le = refl
letters_kept f Conflicts p le = refl
letters_kept f Overrides p le = refl
letters_kept f LongAliases p le = refl
letters_kept f LetterAliases p le = sym (kept (λ a. a.letter_aliases) refl refl f p le)
letters_kept f Members p le = refl
letters_kept f GroupRequires p le = refl
letters_kept f GroupConflicts p le = refl
letters_kept f SubcommandAliases p le = refl
letters_kept f LongFlagAliases p le = refl
letters_kept f LetterFlagAliases p le = refl

pub own_arg : (f : Form) (p : ℕ) → length f.args ≤ 80 → p < length f.args → get_or f.args p blank_arg ≡ get_or (with_flags f).args p blank_arg
own_arg f p le lt = sym (ap (λ xs. get_or xs p blank_arg) (args_split f le) ∙ get_or_append_left f.args (fitting f) blank_arg p lt)

past_own : (f : Form) (p n : ℕ) → length f.args ≤ 80 → p ≡ length f.args + n → get_or (with_flags f).args p blank_arg ≡ get_or (fitting f) n blank_arg
past_own f p n le at =
    let e : p - length f.args ≡ n = omega arith in
    ap (λ xs. get_or xs p blank_arg) (args_split f le) ∙ get_or-append_right f.args (fitting f) (length f.args) p blank_arg refl (omega arith) ∙ ap (λ i. get_or (fitting f) i blank_arg) e

-- past the form's own arguments: the flag there, or a blank argument where there is none
pub arg_at : (f : Form) (p n : ℕ) (o : Option Arg) → length f.args ≤ 80 → p ≡ length f.args + n → o ≡ slice_get (fitting f) n → unwrap_or o blank_arg ≡ get_or (with_flags f).args p blank_arg
arg_at f p n o le at e = ap (λ x. unwrap_or x blank_arg) e ∙ unwrap_or-slice_get (fitting f) n blank_arg ∙ sym (past_own f p n le at)

pub flags_arg_count : (f : Form) → length f.args ≤ 80 → length f.args + length (fitting f) ≡ length (with_flags f).args
flags_arg_count f le = sym (ap length (args_split f le) ∙ length-append f.args (fitting f))

pub fitting_few : (f : Form) → length (fitting f) ≤ 80
fitting_few f = omega (arith, length-take (80 - length f.args) (wanted f))
