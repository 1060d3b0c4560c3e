-- The keys of one argument, in parts.
use Rattle.std.specs.Prelude.{ℕ, List, ◌++◌, map, Option, slice_index_or}
use Rattle.form.specs.Model.{Name, Form, blank_arg}
use Rattle.form.specs.Keys.{KeyName, letter, long, listed, key_names}

-- the key of a long name, where there is one
abbrev pub long_names : Option Name → List KeyName
long_names s = map long (listed s)

-- the keys of a letter and a long name
abbrev pub own_names : Option ℕ → Option Name → List KeyName
own_names c s = map letter (listed c) ++ long_names s

-- the keys of the argument at the place of a form
abbrev pub names_at_place : Form → ℕ → List KeyName
names_at_place f p = key_names (slice_index_or f.args p blank_arg).index (slice_index_or f.args p blank_arg)
