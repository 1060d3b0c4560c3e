-- The keys of a row of arguments: split in two, and how many there are at most; and what stands at a place of two lists joined.
use Rattle.std.proofs.Common.{◌≡◌, ℕ, zero, suc, ◌+◌, ◌*◌, ◌<◌, ◌≤◌, List, [], ◌∷◌, ◌++◌, length, Some, None, Option, sym, refl, ap, ◌∙◌, append_assoc, add-zero, zero-add, arith, length-append}
use Rattle.std.proofs.lemmas.List.{length-map}
use Rattle.std.specs.List.{slice_get}
use Rattle.form.specs.Model.{Arg, Form}
use Rattle.form.specs.Keys.{listed, key_names, arg_keys, keys_from, keys_of}
use Rattle.form.specs.Limits.{Fits, arg_items, summed}

pub nth_left : {X : Type 0} (xs ys : List X) (i : ℕ) → i < length xs → slice_get (xs ++ ys) i ≡ slice_get xs i
nth_left [] ys i h = absurd (omega arith)
nth_left (x ∷ xs) ys zero h = refl
nth_left (x ∷ xs) ys (suc i) h = nth_left xs ys i (omega arith)

pub nth_right : {X : Type 0} (xs ys : List X) (i n : ℕ) → i ≡ length xs + n → slice_get (xs ++ ys) i ≡ slice_get ys n
nth_right [] ys i n e = ap (slice_get ys) (e ∙ zero-add n)
nth_right (x ∷ xs) ys zero n e = absurd (omega arith)
nth_right (x ∷ xs) ys (suc i) n e = nth_right xs ys i n (omega arith)

pub keys_append : (p q : ℕ) (xs ys : List Arg) → q ≡ p + length xs → keys_from p (xs ++ ys) ≡ keys_from p xs ++ keys_from q ys
unfolding keys_from
keys_append p q [] ys e = ap (λ n. keys_from n ys) (sym (e ∙ add-zero p))
keys_append p q (x ∷ xs) ys e =
    ap (λ ks. arg_keys p x ++ ks) (keys_append (suc p) q xs ys (omega arith)) ∙ sym (append_assoc (arg_keys p x) (keys_from (suc p) xs) (keys_from q ys))

listed_few : {X : Type 0} (o : Option X) → length (listed o) ≤ 1
listed_few None = omega arith
listed_few (Some x) = omega arith

pub names_few : (i : Option ℕ) (a : Arg) → length (key_names i a) ≤ 2 + arg_items a
names_few (Some i) a = omega arith
names_few None a =
    simp (length-append, length-map) (omega (arith, listed_few a.letter, listed_few a.long))

pub keys_few : (p : ℕ) (xs : List Arg) → length (keys_from p xs) ≤ 2 * length xs + summed arg_items xs
unfolding keys_from summed
keys_few p [] = omega arith
keys_few p (x ∷ xs) = simp (length-append, length-map) (omega (arith, names_few x.index x, keys_few (suc p) xs))

-- a form within its limits has at most 1184 keys
pub form_keys_few : (f : Form) → Fits f → length (keys_of f) ≤ 1184
form_keys_few f fit = omega (arith, keys_few 0 f.args, fit.args, fit.items)
