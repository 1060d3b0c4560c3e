-- What the stored keys of a book mean.
use Rattle.std.specs.Prelude.{ℕ}
use Rattle.form.specs.NameBytes.{name_bytes}
use Rattle.form.specs.Keys.{KeyName, letter, long, Key}
use Rattle.form.specs.Shown.{key_told, key_of}
use Rattle.form.specs.declared.name.Name.{Name}
use Rattle.form.specs.declared.views.KeyType.{KeyType}
use Rattle.form.specs.declared.views.Key.{Key as HeldKey}
use Rattle.calls.specs.Marked.{ItemOf, name_item, letter_item}

abbrev pub key_named : KeyType Name → KeyName
key_named k = key_told name_bytes k

abbrev pub key_held : HeldKey Name → Key
key_held k = key_of name_bytes k

-- the key of the argument at the place
abbrev pub keyed_at : ℕ → KeyName → Key
keyed_at p k = record { name = k; place = p }

-- by what an alias finds its argument
abbrev pub alias_key : ItemOf → KeyName
alias_key (name_item x) = long x
alias_key (letter_item c) = letter c
