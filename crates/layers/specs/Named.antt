-- The argument that the code's name of a flag stands for.
use Rattle.form.specs.Model.{Arg}
use Rattle.layers.specs.Flags.{help, version}
use Rattle.layers.specs.declared.flag.Flag.{Flag}
use Rattle.layers.specs.declared.flag.Flag.TheVariants.{Help, Version}

abbrev pub flag_arg : Flag → Arg
flag_arg Help = help
flag_arg Version = version
