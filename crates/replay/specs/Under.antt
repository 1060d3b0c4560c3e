-- A form under layers of standard flags.
use Rattle.form.specs.Model.{Form}
use Rattle.layers.specs.Flags.{with_flags}
use Rattle.replay.specs.declared.under.Layers.{Layers}
use Rattle.replay.specs.declared.under.Layers.TheVariants as layers

abbrev pub under : Layers → Form → Form
under layers.None f = f
under layers.One f = with_flags f
under layers.Two f = with_flags (with_flags f)
under layers.Three f = with_flags (with_flags (with_flags f))
