-- The keys of a form with its standard flags: after the form's own come two for each flag that fits, letter and long name.
use Rattle.std.proofs.Common.{◌≡◌, ℕ, zero, suc, ◌+◌, ◌-◌, ◌*◌, ◌<◌, ◌≤◌, Bool, true, false, List, [], ◌∷◌, ◌++◌, map, length, take, Some, None, Option, sym, refl, ap, ◌∙◌, arith, length-append}
use Rattle.std.specs.List.{slice_get}
use Rattle.std.specs.Option.{option_map}
use Rattle.std.proofs.lemmas.List.{take-map, length-map}
use Rattle.std.proofs.lemmas.Option.{slice_get_past}
use Rattle.form.specs.Model.{Arg, Form}
use Rattle.form.specs.Keys.{Key, letter, long, arg_keys, keys_from, keys_of}
use Rattle.keys.proofs.ArgKeys.{past_none}
use Rattle.keys.proofs.KeyLists.{keys_append, nth_left, nth_right}
use Rattle.layers.specs.Flags.{help, version, where_wanted, wants_help, wants_version, with_flags}
use Rattle.layers.specs.Room.{fitting}
use Rattle.layers.specs.Named.{flag_arg}
use Rattle.layers.specs.declared.flag.Flag.{Flag}
use Rattle.layers.specs.declared.flag.Flag.TheVariants.{Help, Version}
use Rattle.layers.proofs.Places.{args_split}

-- the flags that fit, by the code's names
some_flags : Bool → Bool → List Flag
some_flags true true = Help ∷ Version ∷ []
some_flags true false = Help ∷ []
some_flags false true = Version ∷ []
some_flags false false = []

some_args : (h v : Bool) → where_wanted h help ++ where_wanted v version ≡ map flag_arg (some_flags h v)
unfolding some_flags
some_args true true = refl
some_args true false = refl
some_args false true = refl
some_args false false = refl

flags_of : Form → List Flag
flags_of f = take (80 - length f.args) (some_flags (wants_help f) (wants_version f))

fitting_named : (f : Form) → fitting f ≡ map flag_arg (flags_of f)
unfolding flags_of
fitting_named f = ap (take (80 - length f.args)) (some_args (wants_help f) (wants_version f)) ∙ take-map flag_arg (80 - length f.args) (some_flags (wants_help f) (wants_version f))

or_zero : Option ℕ → ℕ
or_zero None = 0
or_zero (Some n) = n

abbrev letter_key : ℕ → Arg → Key
letter_key p a = record { name = letter (or_zero a.letter); place = p }

abbrev long_key : ℕ → Arg → Key
long_key p a = record { name = long a.id; place = p }

two_keys : (p : ℕ) (x : Flag) → arg_keys p (flag_arg x) ≡ letter_key p (flag_arg x) ∷ (long_key p (flag_arg x) ∷ [])
unfolding or_zero
two_keys p Help = refl
two_keys p Version = refl

-- the key at an even place is a letter, at an odd place a long name
even_key : (q : ℕ) (fs : List Flag) (m n p : ℕ) → m ≡ n + n → p ≡ q + n
    → slice_get (keys_from q (map flag_arg fs)) m ≡ option_map (letter_key p) (slice_get (map flag_arg fs) n)
unfolding keys_from
even_key q [] m n p e at = refl
even_key q (x ∷ fs) zero zero p e at = rw (two_keys q x) (ap (λ i. Some (letter_key i (flag_arg x))) (let s : q ≡ p = omega arith in s))
even_key q (x ∷ fs) zero (suc n) p e at = absurd (omega arith)
even_key q (x ∷ fs) (suc zero) n p e at = absurd (omega arith)
even_key q (x ∷ fs) (suc (suc m)) zero p e at = absurd (omega arith)
even_key q (x ∷ fs) (suc (suc m)) (suc n) p e at = rw (two_keys q x) (even_key (suc q) fs m n p (omega arith) (omega arith))

odd_key : (q : ℕ) (fs : List Flag) (m n p : ℕ) → m ≡ suc (n + n) → p ≡ q + n
    → slice_get (keys_from q (map flag_arg fs)) m ≡ option_map (long_key p) (slice_get (map flag_arg fs) n)
unfolding keys_from
odd_key q [] m n p e at = refl
odd_key q (x ∷ fs) zero n p e at = absurd (omega arith)
odd_key q (x ∷ fs) (suc zero) zero p e at = rw (two_keys q x) (ap (λ i. Some (long_key i (flag_arg x))) (let s : q ≡ p = omega arith in s))
odd_key q (x ∷ fs) (suc zero) (suc n) p e at = absurd (omega arith)
odd_key q (x ∷ fs) (suc (suc m)) zero p e at = absurd (omega arith)
odd_key q (x ∷ fs) (suc (suc m)) (suc n) p e at = rw (two_keys q x) (odd_key (suc q) fs m n p (omega arith) (omega arith))

key_total : (q : ℕ) (fs : List Flag) → length (keys_from q (map flag_arg fs)) ≡ 2 * length fs
unfolding keys_from
key_total q [] = refl
key_total q (x ∷ fs) = rw (two_keys q x) (omega (arith, key_total (suc q) fs))

keys_split : (f : Form) → length f.args ≤ 80 → keys_of (with_flags f) ≡ keys_of f ++ keys_from (length f.args) (map flag_arg (flags_of f))
keys_split f le =
    ap (keys_from 0) (args_split f le ∙ ap (λ xs. f.args ++ xs) (fitting_named f)) ∙ keys_append 0 (length f.args) f.args (map flag_arg (flags_of f)) (omega arith)

pub flags_key_count : (f : Form) → length f.args ≤ 80 → length (keys_of (with_flags f)) ≡ length (keys_of f) + 2 * length (fitting f)
flags_key_count f le =
    let n = ap length (fitting_named f) ∙ length-map (flags_of f) flag_arg in
    ap length (keys_split f le) ∙ length-append (keys_of f) _ ∙ omega (arith, key_total (length f.args) (flags_of f), n)

pub own_key : (f : Form) (i : ℕ) → length f.args ≤ 80 → i < length (keys_of f) → slice_get (keys_of f) i ≡ slice_get (keys_of (with_flags f)) i
own_key f i le lt = sym (ap (λ ks. slice_get ks i) (keys_split f le) ∙ nth_left (keys_of f) _ i lt)

-- a key past the form's own, and the flag that it is of
past_key : (f : Form) (i m : ℕ) → length f.args ≤ 80 → i ≡ length (keys_of f) + m → slice_get (keys_of (with_flags f)) i ≡ slice_get (keys_from (length f.args) (map flag_arg (flags_of f))) m
past_key f i m le at = ap (λ ks. slice_get ks i) (keys_split f le) ∙ nth_right (keys_of f) _ i m at

pub flag_letter_key : (f : Form) (i n c : ℕ) (x : Flag) → length f.args ≤ 80 → i ≡ length (keys_of f) + (n + n) → Some (flag_arg x) ≡ slice_get (fitting f) n → Some c ≡ (flag_arg x).letter
    → Some (record { name = letter c; place = length f.args + n }) ≡ slice_get (keys_of (with_flags f)) i
unfolding or_zero
flag_letter_key f i n c x le at e l =
    ap (λ o. Some (record { name = letter (or_zero o); place = length f.args + n })) l
    ∙ ap (option_map (letter_key (length f.args + n))) (e ∙ ap (λ xs. slice_get xs n) (fitting_named f))
    ∙ sym (past_key f i (n + n) le at ∙ even_key (length f.args) (flags_of f) (n + n) n (length f.args + n) refl refl)

pub flag_long_key : (f : Form) (i n : ℕ) (s : List ℕ) (x : Flag) → length f.args ≤ 80 → i ≡ length (keys_of f) + suc (n + n) → Some (flag_arg x) ≡ slice_get (fitting f) n → s ≡ (flag_arg x).id
    → Some (record { name = long s; place = length f.args + n }) ≡ slice_get (keys_of (with_flags f)) i
flag_long_key f i n s x le at e l =
    ap (λ o. Some (record { name = long o; place = length f.args + n })) l
    ∙ ap (option_map (long_key (length f.args + n))) (e ∙ ap (λ xs. slice_get xs n) (fitting_named f))
    ∙ sym (past_key f i (suc (n + n)) le at ∙ odd_key (length f.args) (flags_of f) (suc (n + n)) n (length f.args + n) refl refl)

pub no_flag_key : (f : Form) (i n : ℕ) → length f.args ≤ 80 → length (keys_of f) + (n + n) ≤ i → None ≡ slice_get (fitting f) n → None ≡ slice_get (keys_of (with_flags f)) i
no_flag_key f i n le past e =
    let few : length (fitting f) ≤ n = past_none (fitting f) n e in
    sym (slice_get_past (keys_of (with_flags f)) i (omega (arith, flags_key_count f le)))
