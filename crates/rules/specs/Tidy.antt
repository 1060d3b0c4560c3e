-- What a form that breaks no rule is, in the subject's own words: how its arguments, groups and subcommands hang together.
use Rattle.std.specs.Prelude.{◌≡◌, ℕ, ◌+◌, ◌≤◌, ◌⊎◌, List, [], ◌∷◌, Some, None, Option}
use Rattle.form.specs.Model.{Name, Arg, Group, Form}
use Rattle.form.specs.Keys.{KeyName, key_names, keys_of, first_key}
use Rattle.form.specs.Lists.{list_number, arg_names}
use Rattle.form.specs.declared.lists.ItemList.{ItemList}
use Rattle.form.specs.declared.arg_settings.ArgSettings.TheVariants.{Last}
use Rattle.rules.specs.declared.breach.Breach.{Breach}
use Rattle.rules.specs.Order.{Stands, Member}
use Rattle.rules.specs.Words.{Has, Positional, ArgNamed, GroupNamed, Owner, owners, Flag, Called}
use Rattle.rules.specs.Breaks.{Breaks}

-- P holds of one place, and of no other
pub record One (P : ℕ → Type 0) : Type 0 where
  pub place : ℕ
  pub here : P place
  pub alone : (q : ℕ) → P q → q ≡ place

-- 1 where there is neither letter nor long name, else 0
abbrev pub flagless : Option ℕ → Option Name → ℕ
flagless None None = 1
flagless None (Some x) = 0
flagless (Some c) o = 0

-- how many of the arguments are positional
abbrev pub positionals : List Arg → ℕ
positionals [] = 0
positionals (a ∷ l) = flagless a.letter a.long + positionals l

-- the argument at p is positional, and its index is k
abbrev pub Carries : Form → ℕ → ℕ → Type 0
Carries f k p = (a : Arg) × Stands f.args p a × Positional a × (a.index ≡ Some k)

-- the argument at p is positional, and marked last
abbrev pub MarkedLast : Form → ℕ → Type 0
MarkedLast f p = (a : Arg) × Stands f.args p a × Positional a × Has a Last

-- some argument, or some group, has the id
abbrev pub Named : Form → Name → Type 0
Named f x = ArgNamed f x ⊎ GroupNamed f x

-- owner i, of the subcommands and then the arguments, has the long flag x, as its own or as an alias
abbrev pub HasLong : Form → Name → ℕ → Type 0
HasLong f x i = (o : Owner) × (k : ℕ) × Stands (owners f) i o × Flag o.long o.long_aliases k x

-- owner i has the letter c, as its own or as an alias
abbrev pub HasLetter : Form → ℕ → ℕ → Type 0
HasLetter f c i = (o : Owner) × (k : ℕ) × Stands (owners f) i o × Flag o.letter o.letter_aliases k c

-- the argument at p has the key k
abbrev pub HasKey : Form → KeyName → ℕ → Type 0
HasKey f k p = (a : Arg) × Stands f.args p a × Member k (key_names a.index a)

pub record Tidy (f : Form) : Type 0 where
  -- each of the n positional arguments has an index, from 1 to n
  pub within : (p : ℕ) (a : Arg) → Stands f.args p a → Positional a → (k : ℕ) × (a.index ≡ Some k) × (1 ≤ k) × (k ≤ positionals f.args)
  -- and each number from 1 to n is the index of exactly one of them
  pub once : (k : ℕ) → 1 ≤ k → k ≤ positionals f.args → One (Carries f k)
  -- no other argument has an index
  pub no_other : (p : ℕ) (a : Arg) (k : ℕ) → Stands f.args p a → a.index ≡ Some k → Positional a
  -- at most one positional argument is marked last
  pub one_last : (p q : ℕ) → MarkedLast f p → MarkedLast f q → p ≡ q
  -- an id is one argument's
  pub one_id : (p q : ℕ) (a b : Arg) → Stands f.args p a → Stands f.args q b → a.id ≡ b.id → p ≡ q
  -- or one group's
  pub one_group : (p q : ℕ) (g h : Group) → Stands f.groups p g → Stands f.groups q h → g.id ≡ h.id → p ≡ q
  -- and never both an argument's and a group's
  pub not_both : (x : Name) → ArgNamed f x → GroupNamed f x → ⊥
  -- a name or alias is one subcommand's, and stands there once
  pub one_name : (x : Name) (p k q m : ℕ) → Called f p k x → Called f q m x → (p ≡ q) × (k ≡ m)
  -- whatever an argument refers to, in its lists 1 to 7, is an argument or a group
  pub arg_meets : (p : ℕ) (a : Arg) (l : ItemList) (k : ℕ) (x : Name) → Stands f.args p a → list_number l ≤ 7 → Stands (arg_names a l) k x → Named f x
  -- a member of a group is an argument
  pub member_meets : (p : ℕ) (g : Group) (k : ℕ) (x : Name) → Stands f.groups p g → Stands g.members k x → ArgNamed f x
  -- what a group requires is an argument or a group
  pub require_meets : (p : ℕ) (g : Group) (k : ℕ) (x : Name) → Stands f.groups p g → Stands g.requires k x → Named f x
  -- and so is what it conflicts with
  pub conflict_meets : (p : ℕ) (g : Group) (k : ℕ) (x : Name) → Stands f.groups p g → Stands g.conflicts k x → Named f x
  -- a long flag is one owner's, subcommand or argument
  pub one_long : (x : Name) (i j : ℕ) → HasLong f x i → HasLong f x j → i ≡ j
  -- and so is a letter
  pub one_letter : (c i j : ℕ) → HasLetter f c i → HasLetter f c j → i ≡ j
  -- every argument has a key
  pub keyed : (p : ℕ) (a : Arg) → Stands f.args p a → (k : KeyName) × HasKey f k p
  -- each key of an argument finds that argument
  pub finds : (k : KeyName) (p : ℕ) → HasKey f k p → first_key k (keys_of f) ≡ Some p
  -- a key is one argument's
  pub one_key : (k : KeyName) (p q : ℕ) → HasKey f k p → HasKey f k q → p ≡ q
  -- and what a key finds has the key
  pub found : (k : KeyName) (p : ℕ) → first_key k (keys_of f) ≡ Some p → HasKey f k p

-- a form that has no breach is tidy
abbrev pub EmptyMeansTidy : Type 0
EmptyMeansTidy = (f : Form) → ((b : Breach) → Breaks f b → ⊥) → Tidy f
