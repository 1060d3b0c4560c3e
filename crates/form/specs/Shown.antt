-- What the views of a source stand for. A view shows an entry's record; its lists are asked for apart.
use Rattle.std.specs.Prelude.{ℕ, Bool, List, Option}
use Rattle.std.specs.Borrow.{Bor}
use Rattle.std.specs.Option.{option_map}
use Rattle.form.specs.Model.{Name, Range, Arg, Subcommand}
use Rattle.form.specs.Bounds.{bounds}
use Rattle.form.specs.Keys.{KeyName, position, letter, long}
use Rattle.form.specs.Keys as keys
use Rattle.form.specs.declared.action.ArgAction.{ArgAction}
use Rattle.form.specs.declared.views.ArgOf.{ArgOf}
use Rattle.form.specs.declared.views.SubcommandOf.{SubcommandOf}
use Rattle.form.specs.declared.views.KeyType.{KeyType}
use Rattle.form.specs.declared.views.KeyType.TheVariants.{Position, Short, Long}
use Rattle.form.specs.declared.views.Key.{Key}

-- the record of an argument: what it has besides its lists
pub record ArgRecord : Type 0 where
  pub id : Name
  pub long : Option Name
  pub letter : Option ℕ
  pub index : Option ℕ
  pub settings : ℕ
  pub action : ArgAction
  pub terminated : Bool
  pub range : Option Range

abbrev pub arg_record : Arg → ArgRecord
arg_record a = record { id = a.id; long = a.long; letter = a.letter; index = a.index; settings = a.settings; action = a.action; terminated = a.terminated; range = a.range }

-- what is told of an argument whose names are held as N, where a name held stands for bytes
abbrev pub told_of : {N : Type 0} → (N → Name) → ArgOf N → ArgRecord
told_of name v = record { id = name v.id; long = option_map name v.long; letter = v.letter; index = v.index; settings = v.settings.bits; action = v.action; terminated = v.terminated; range = option_map bounds v.range }

-- the record that a view shows
abbrev pub shown : ArgOf (Bor (List ℕ)) → ArgRecord
shown v = told_of (λ x. x.now) v

-- the record of a subcommand: what it has besides its lists
pub record SubcommandRecord : Type 0 where
  pub name : Name
  pub long : Option Name
  pub letter : Option ℕ

abbrev pub subcommand_record : Subcommand → SubcommandRecord
subcommand_record s = record { name = s.name; long = s.long; letter = s.letter }

-- the same, of a subcommand whose names are held as N
abbrev pub told_of_subcommand : {N : Type 0} → (N → Name) → SubcommandOf N → SubcommandRecord
told_of_subcommand name v = record { name = name v.name; long = option_map name v.long; letter = v.letter }

abbrev pub shown_subcommand : SubcommandOf (Bor (List ℕ)) → SubcommandRecord
shown_subcommand v = told_of_subcommand (λ x. x.now) v

-- the key that is told, where a long name held as N stands for bytes
abbrev pub key_told : {N : Type 0} → (N → Name) → KeyType N → KeyName
key_told name (Position i) = position i
key_told name (Short c) = letter c
key_told name (Long x) = long (name x)

-- the key that a view shows
abbrev pub key_name : KeyType (Bor (List ℕ)) → KeyName
key_name k = key_told (λ x. x.now) k

-- a key with its place, where a long name held as N stands for bytes
abbrev pub key_of : {N : Type 0} → (N → Name) → Key N → keys.Key
key_of name k = record { name = key_told name k.name; place = k.place }

abbrev pub shown_key : Key (Bor (List ℕ)) → keys.Key
shown_key k = key_of (λ x. x.now) k
