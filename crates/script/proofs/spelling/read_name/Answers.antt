use Rattle.std.proofs.Common.{arith, length-take, rules}
use Rattle.form.specs.HeldBytes.{held_bytes}
use Rattle.script.proofs.Spells.{name_more, name_end}
use Rattle.script.proofs.spelling.read_name.Goals as goal

pub loop-rest-preserved : goal.loop-rest-preserved
loop-rest-preserved c =
    name_more (held_bytes c.loop-rest.name) _ c.loop-rest.rest.now c.in_ok-byte.later.now _ _ c.in_ok-byte.ensures.0 c.push.ensures c.loop-rest.invariant

pub returns : goal.returns
returns c =
    name_end (held_bytes c.loop-rest.name) c.loop-rest.rest.now _ (search rules) (simp length-take (omega arith)) c.loop-rest.invariant
