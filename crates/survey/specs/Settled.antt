-- Arguments that settle a position.
use Rattle.std.specs.Prelude.{Bool, not, ◌&&◌}
use Rattle.form.specs.Model.{Arg}
use Rattle.form.specs.Settings.{arg_set}
use Rattle.form.specs.declared.arg_settings.ArgSettings.TheVariants.{Required, Last}

-- required, and not last
abbrev pub settles : Arg → Bool
settles a = arg_set a.settings Required && not (arg_set a.settings Last)
