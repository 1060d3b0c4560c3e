-- The keys of one argument, found by place, and the keys of the arguments from a place on.
use Rattle.std.proofs.Common.{◌≡◌, ℕ, zero, suc, ◌+◌, ◌-◌, ◌<◌, ◌≤◌, false, List, [], ◌∷◌, ◌++◌, map, length, get_or, drop, is_some, Some, None, Option, sym, refl, ap, ◌∙◌, append_assoc, add-one, arith, length-append}
use borrow.Author.Tests.{clash}
use Rattle.std.specs.List.{slice_get}
use Rattle.std.specs.Option.{option_map}
use Rattle.std.proofs.lemmas.List.{length-map, drop_more, drop_all}
use Rattle.std.proofs.lemmas.Option.{slice_get-map, slice_get-get_or}
use Rattle.form.specs.Model.{Arg, Form, blank_arg}
use Rattle.form.specs.Keys.{KeyName, letter, long, listed, key_names, arg_keys, keys_from, keys_of}
use Rattle.keys.specs.KeysAt.{long_names, own_names, names_at_place}
use Rattle.form.specs.Limits.{Fits, arg_items, summed}
use Rattle.keys.proofs.KeyLists.{nth_left, nth_right, names_few}

some_at : {X Y : Type 0} (f : X → Y) (xs : List X) (i : ℕ) (d : X) → i < length xs → Some (f (get_or xs i d)) ≡ slice_get (map f xs) i
some_at f xs i d lt = sym (slice_get-map f xs i ∙ ap (option_map f) (slice_get-get_or xs i d lt))

pub past_none : {X : Type 0} (xs : List X) (n : ℕ) → None ≡ slice_get xs n → length xs ≤ n
past_none [] n e = omega arith
past_none (x ∷ xs) zero e = absurd (let z : ◌≡◌ {A = ℕ} 0 1 = cc in omega arith)
past_none (x ∷ xs) (suc n) e = let h : length xs ≤ n = past_none xs n e in omega arith

aliases : Arg → List KeyName
aliases a = map letter a.letter_aliases ++ map long a.long_aliases

-- without an index: the argument's own names, then its aliases
in_parts : (a : Arg) → a.index ≡ None → key_names a.index a ≡ own_names a.letter a.long ++ aliases a
unfolding aliases
in_parts a e = ap (λ i. key_names i a) e ∙ sym (append_assoc (map letter (listed a.letter)) (long_names a.long) (map letter a.letter_aliases ++ map long a.long_aliases))

pub names_total : (a : Arg) → a.index ≡ None → length (own_names a.letter a.long) + (length a.letter_aliases + length a.long_aliases) ≡ length (key_names a.index a)
unfolding aliases
names_total a e = sym (ap length (in_parts a e) ∙ simp (length-append, length-map))

pub letter_alias_at : (a : Arg) (n m : ℕ) → a.index ≡ None → n ≡ length (own_names a.letter a.long) + m → m < length a.letter_aliases
    → Some (letter (get_or a.letter_aliases m 0)) ≡ slice_get (key_names a.index a) n
unfolding aliases
letter_alias_at a n m e at lt =
    some_at letter a.letter_aliases m 0 lt
    ∙ sym (ap (λ ks. slice_get ks n) (in_parts a e) ∙ nth_right (own_names a.letter a.long) (aliases a) n m at
    ∙ nth_left (map letter a.letter_aliases) (map long a.long_aliases) m (simp length-map lt))

pub long_alias_at : (a : Arg) (n m : ℕ) → a.index ≡ None → n < length (key_names a.index a) → n ≡ length (own_names a.letter a.long) + (length a.letter_aliases + m)
    → Some (long (get_or a.long_aliases m [])) ≡ slice_get (key_names a.index a) n
unfolding aliases
long_alias_at a n m e lt at =
    some_at long a.long_aliases m [] (omega (arith, names_total a e))
    ∙ sym (ap (λ ks. slice_get ks n) (in_parts a e) ∙ nth_right (own_names a.letter a.long) (aliases a) n (length a.letter_aliases + m) at
    ∙ nth_right (map letter a.letter_aliases) (map long a.long_aliases) (length a.letter_aliases + m) m (simp length-map))

-- the keys from a place on: those of the argument there, then those from the next place on
from_place : (xs : List Arg) (p : ℕ) → p < length xs → keys_from p (drop p xs) ≡ arg_keys p (get_or xs p blank_arg) ++ keys_from (p + 1) (drop (p + 1) xs)
unfolding keys_from
from_place xs p lt = ap (keys_from p) (drop_more xs p blank_arg lt) ∙ ap (λ q. arg_keys p (get_or xs p blank_arg) ++ keys_from q (drop (p + 1) xs)) (sym (add-one p))

arg_keys_count : (p : ℕ) (a : Arg) → length (arg_keys p a) ≡ length (key_names a.index a)
arg_keys_count p a = length-map (key_names a.index a) (λ k. record { name = k; place = p })

pub count_more : (f : Form) (p n m : ℕ) → p < length f.args → m ≡ length (names_at_place f p)
    → n + length (keys_from p (drop p f.args)) ≡ length (keys_of f)
    → (n + m) + length (keys_from (p + 1) (drop (p + 1) f.args)) ≡ length (keys_of f)
count_more f p n m lt here all =
    let a = get_or f.args p blank_arg in
    omega (arith, ap length (from_place f.args p lt) ∙ length-append (arg_keys p a) _, arg_keys_count p a)

pub keys_past : (f : Form) (p : ℕ) → length f.args ≤ p → keys_from p (drop p f.args) ≡ []
unfolding keys_from
keys_past f p le = ap (keys_from p) (drop_all p f.args le)

pub key_here : (f : Form) (p n i : ℕ) (k : KeyName) → p < length f.args → n < length (names_at_place f p) → Some k ≡ slice_get (names_at_place f p) n
    → slice_get (keys_from p (drop p f.args)) n ≡ slice_get (keys_of f) i → Some (record { name = k; place = p }) ≡ slice_get (keys_of f) i
key_here f p n i k lt in_it at all =
    let a = get_or f.args p blank_arg in
    ap (option_map (λ k. record { name = k; place = p })) at ∙ sym (slice_get-map (λ k. record { name = k; place = p }) (key_names a.index a) n)
    ∙ sym (nth_left (arg_keys p a) (keys_from (p + 1) (drop (p + 1) f.args)) n (omega (arith, arg_keys_count p a)))
    ∙ sym (ap (λ ks. slice_get ks n) (from_place f.args p lt)) ∙ all

pub key_later : (f : Form) (p n i m : ℕ) → p < length f.args → m ≡ length (names_at_place f p) → m ≤ n
    → slice_get (keys_from p (drop p f.args)) n ≡ slice_get (keys_of f) i → slice_get (keys_from (p + 1) (drop (p + 1) f.args)) (n - m) ≡ slice_get (keys_of f) i
key_later f p n i m lt here le all =
    let a = get_or f.args p blank_arg in
    sym (nth_right (arg_keys p a) (keys_from (p + 1) (drop (p + 1) f.args)) n (n - m) (omega (arith, arg_keys_count p a)))
    ∙ sym (ap (λ ks. slice_get ks n) (from_place f.args p lt)) ∙ all

pub no_index : {X : Type 0} (o p : Option X) → false ≡ is_some o → o ≡ p → p ≡ None
no_index None p e same = sym same
no_index (Some x) p e same = absurd (clash e)

part_of_sum : {X : Type 0} (size : X → ℕ) (xs : List X) (p : ℕ) (d : X) → size d ≡ 0 → size (get_or xs p d) ≤ summed size xs
unfolding summed
part_of_sum size [] p d z = omega arith
part_of_sum size (x ∷ xs) zero d z = omega arith
part_of_sum size (x ∷ xs) (suc p) d z = omega (arith, part_of_sum size xs p d z)

pub place_few : (f : Form) (p : ℕ) → Fits f → length (names_at_place f p) ≤ 1026
place_few f p fit =
    let a = get_or f.args p blank_arg in
    omega (arith, names_few a.index a, part_of_sum arg_items f.args p blank_arg refl, fit.items)
