-- The wanted flags for which a form has room.
use Rattle.std.specs.Prelude.{◌-◌, List, length, take}
use Rattle.form.specs.Model.{Arg, Form}
use Rattle.layers.specs.Flags.{wanted}

abbrev pub fitting : Form → List Arg
fitting f = take (80 - length f.args) (wanted f)
