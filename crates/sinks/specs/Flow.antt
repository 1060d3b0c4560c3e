-- Whether a survey goes on.
use Rattle.std.specs.Prelude.{Bool, cond, ⊤}
use Rattle.std.specs.declared.ops.ControlFlow.{ControlFlow}
use Rattle.std.specs.declared.ops.ControlFlow.TheVariants.{Break, Continue}

-- it breaks off at a sink that takes no more
abbrev pub flow : Bool → ControlFlow (⊤) (⊤)
flow full = cond full (Break tt) (Continue tt)
