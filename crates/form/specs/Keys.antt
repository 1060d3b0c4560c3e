-- The keys of a form: by what its arguments are found.
use Rattle.std.specs.Prelude.{ℕ, suc, Bool, false, cond, List, [], ◌∷◌, ◌++◌, map, Some, None, Option, ◌==◌}
use Rattle.std.specs.Str.{bytes_eq}
use Rattle.form.specs.Model.{Name, Arg, Form}

-- a position, a letter or a long name; keys of different kinds are never equal
pub data KeyName : Type 0 where
  position : ℕ → KeyName
  letter : ℕ → KeyName
  long : Name → KeyName

-- a key with the place of its argument
pub record Key : Type 0 where
  pub name : KeyName
  pub place : ℕ

-- what an option has, as a list
abbrev pub listed : {X : Type 0} → Option X → List X
listed None = []
listed (Some x) = x ∷ []

-- an argument with an index has its position for its one key;
-- any other has its letter, its long name, its letter aliases and its long aliases, in that order
abbrev pub key_names : Option ℕ → Arg → List KeyName
key_names (Some i) a = position i ∷ []
key_names None a = map letter (listed a.letter) ++ (map long (listed a.long) ++ (map letter a.letter_aliases ++ map long a.long_aliases))

-- the keys of the argument at the place
abbrev pub arg_keys : ℕ → Arg → List Key
arg_keys p a = map (λ k. record { name = k; place = p }) (key_names a.index a)

-- the keys of arguments that stand from the place p on
unfoldable pub keys_from : ℕ → List Arg → List Key
keys_from p [] = []
keys_from p (a ∷ rest) = arg_keys p a ++ keys_from (suc p) rest

-- the keys of a form, in the order of its arguments
abbrev pub keys_of : Form → List Key
keys_of f = keys_from 0 f.args

-- equal keys: of one kind, with the same number or the same bytes
abbrev pub same_key : KeyName → KeyName → Bool
same_key (position m) (position n) = m == n
same_key (position m) (letter n) = false
same_key (position m) (long y) = false
same_key (letter m) (position n) = false
same_key (letter m) (letter n) = m == n
same_key (letter m) (long y) = false
same_key (long x) (position n) = false
same_key (long x) (letter n) = false
same_key (long x) (long y) = bytes_eq x y

-- the place that the first equal key has, where there is one
abbrev pub first_key : KeyName → List Key → Option ℕ
first_key k [] = None
first_key k (e ∷ es) = cond (same_key k e.name) (Some e.place) (first_key k es)
