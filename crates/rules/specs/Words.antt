-- The words in which the rules are said, as plain propositions.
use Rattle.std.specs.Prelude.{◌≡◌, ℕ, suc, ◌<◌, ◌≤◌, true, false, ◌⊎◌, List, [], ◌∷◌, ◌++◌, length, Some, None, Option, ◌≢◌}
use Rattle.form.specs.Model.{Name, Range, Arg, Group, Subcommand, Form}
use Rattle.form.specs.Settings.{arg_set, app_set}
use Rattle.form.specs.Keys.{listed}
use Rattle.form.specs.declared.action.ArgAction.TheVariants.{Append}
use Rattle.form.specs.declared.arg_settings.ArgSettings.{ArgSettings}
use Rattle.form.specs.declared.app_settings.AppSettings.{AppSettings}
use Rattle.rules.specs.Order.{Stands, each}
use Rattle.rules.specs.declared.breach.Entry.{Entry}
use Rattle.rules.specs.Told.{argument, subcommand}

-- the option has something
abbrev pub Given : {X : Type 0} → Option X → Type 0
Given {X} o = (x : X) × (o ≡ Some x)

-- the setting is on, or off
abbrev pub Has : Arg → ArgSettings → Type 0
Has a s = arg_set a.settings s ≡ true

abbrev pub Lacks : Arg → ArgSettings → Type 0
Lacks a s = arg_set a.settings s ≡ false

abbrev pub FormHas : Form → AppSettings → Type 0
FormHas f s = app_set f.settings s ≡ true

abbrev pub FormLacks : Form → AppSettings → Type 0
FormLacks f s = app_set f.settings s ≡ false

-- the range that counts: one value where none is given
abbrev pub counted : Option Range → Range
counted None = record { least = 1; most = 1 }
counted (Some r) = r

abbrev pub least : Arg → ℕ
least a = (counted a.range).least

abbrev pub most : Arg → ℕ
most a = (counted a.range).most

-- the number of values is not fixed
abbrev pub Open : Arg → Type 0
Open a = least a ≡ most a → ⊥

-- it takes more than one value at a time, or may
abbrev pub Many : Arg → Type 0
Many a = Open a ⊎ (1 < least a)

-- it takes more than one value, at a time or in turn
abbrev pub Multiple : Arg → Type 0
Multiple a = Many a ⊎ (a.action ≡ Append)

-- it is given by position: it has neither letter nor long name
abbrev pub Positional : Arg → Type 0
Positional a = (a.letter ≡ None) × (a.long ≡ None)

-- the name begins with a hyphen
abbrev pub Dashed : Name → Type 0
Dashed x = (rest : Name) × (x ≡ 45 ∷ rest)

-- the ids that a name can meet
abbrev pub ArgNamed : Form → Name → Type 0
ArgNamed f x = (p : ℕ) × (a : Arg) × Stands f.args p a × (a.id ≡ x)

abbrev pub GroupNamed : Form → Name → Type 0
GroupNamed f x = (p : ℕ) × (g : Group) × Stands f.groups p g × (g.id ≡ x)

-- no argument has the name for its id, or none and no group has
abbrev pub NoArg : Form → Name → Type 0
NoArg f x = ArgNamed f x → ⊥

abbrev pub Missing : Form → Name → Type 0
Missing f x = (ArgNamed f x → ⊥) × (GroupNamed f x → ⊥)

-- The owners of flags: the subcommands in order, then the arguments.
pub record Owner : Type 0 where
  pub entry : Entry
  pub id : Name
  pub long : Option Name
  pub long_aliases : List Name
  pub letter : Option ℕ
  pub letter_aliases : List ℕ

abbrev pub of_subcommand : ℕ → Subcommand → Owner
of_subcommand p s = record { entry = subcommand p; id = s.name; long = s.long; long_aliases = s.long_aliases; letter = s.letter; letter_aliases = s.letter_aliases }

abbrev pub of_argument : ℕ → Arg → Owner
of_argument p a = record { entry = argument p; id = a.id; long = a.long; long_aliases = a.long_aliases; letter = a.letter; letter_aliases = a.letter_aliases }

abbrev pub owners : Form → List Owner
owners f = each of_subcommand 0 f.subcommands ++ each of_argument 0 f.args

-- x is number k of a flag and its aliases: 0 is the flag itself, an alias is 1 + its place
abbrev pub Flag : {X : Type 0} → Option X → List X → ℕ → X → Type 0
Flag own aliases k x = ((k ≡ 0) × (own ≡ Some x)) ⊎ ((n : ℕ) × (k ≡ suc n) × Stands aliases n x)

-- the owners differ in kind or in id
abbrev pub Differ : Owner → Owner → Type 0
Differ x y = (x.entry.kind ≡ y.entry.kind) × (x.id ≡ y.id) → ⊥

-- subcommand p has the name x as number k: 0 is its name, an alias is 1 + its place
abbrev pub Called : Form → ℕ → ℕ → Name → Type 0
Called f p k x = (s : Subcommand) × Stands f.subcommands p s × Flag (Some s.name) s.aliases k x

-- number m of entry q comes before number k of entry p
abbrev pub Earlier : ℕ → ℕ → ℕ → ℕ → Type 0
Earlier q m p k = (q < p) ⊎ ((q ≡ p) × (m < k))

-- The positions. An index that is none reads as 0.
abbrev pub index_or_0 : Option ℕ → ℕ
index_or_0 None = 0
index_or_0 (Some n) = n

-- the position keys: the indices of the arguments that have one
abbrev pub indices : List Arg → List ℕ
indices [] = []
indices (a ∷ l) = listed a.index ++ indices l

-- how many position keys there are
abbrev pub position_count : Form → ℕ
position_count f = length (indices f.args)

-- h is the highest position key, 0 where there is none
pub record Highest (f : Form) (h : ℕ) : Type 0 where
  pub top : (p : ℕ) (a : Arg) (n : ℕ) → Stands f.args p a → a.index ≡ Some n → n ≤ h
  pub met : (h ≡ 0) ⊎ ((p : ℕ) × (a : Arg) × Stands f.args p a × (a.index ≡ Some h))

-- the argument a at p is the first with the position key n
pub record FirstAt (f : Form) (n p : ℕ) (a : Arg) : Type 0 where
  pub stands : Stands f.args p a
  pub index : a.index ≡ Some n
  pub first : (q : ℕ) (b : Arg) → q < p → Stands f.args q b → b.index ≢ Some n

-- a multiple positional argument stands elsewhere than at the highest position
abbrev pub IsMultipleElsewhere : Form → ℕ → Type 0
IsMultipleElsewhere f h = (p : ℕ) × (a : Arg) × Stands f.args p a × Positional a × Multiple a × (index_or_0 a.index ≢ h)

-- l at p is the first argument of the highest position, s at q the first of the one before
pub record Ends (f : Form) (p : ℕ) (l : Arg) (q : ℕ) (s : Arg) : Type 0 where
  pub n : ℕ
  pub highest : Highest f (suc n)
  pub end : FirstAt f (suc n) p l
  pub before : FirstAt f n q s
  pub elsewhere : IsMultipleElsewhere f (suc n)

-- a positional argument below the index n has no terminator and an open number of values
abbrev pub OpenBelow : Form → ℕ → Type 0
OpenBelow f n = (p : ℕ) × (a : Arg) × Stands f.args p a × Positional a × (index_or_0 a.index < n) × (a.terminated ≡ false) × Open a

-- the argument is positional, many, without terminator, of an open number of values
abbrev pub Wide : Arg → Type 0
Wide a = Positional a × Many a × (a.terminated ≡ false) × Open a

-- the argument at p is wide
abbrev pub WideAt : Form → ℕ → Type 0
WideAt f p = (a : Arg) × Stands f.args p a × Wide a

-- two arguments, and no third, are wide
abbrev pub TwoWide : Form → Type 0
TwoWide f = (p : ℕ) × (q : ℕ) × (p < q) × WideAt f p × WideAt f q × ((r : ℕ) → WideAt f r → (r ≡ p) ⊎ (r ≡ q))
