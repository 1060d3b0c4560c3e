-- Records that are blank but for their name.
use Rattle.std.specs.Prelude.{false, None}
use Rattle.form.specs.Model.{Name}
use Rattle.form.specs.Shown.{ArgRecord, SubcommandRecord}
use Rattle.form.specs.declared.action.ArgAction.TheVariants.{Set}

-- an argument that has this id, and nothing else
abbrev pub arg_named : Name → ArgRecord
arg_named id = record { id = id; long = None; letter = None; index = None; settings = 0; action = Set; terminated = false; range = None }

-- a subcommand that has this name, and nothing else
abbrev pub subcommand_named : Name → SubcommandRecord
subcommand_named name = record { name = name; long = None; letter = None }
