-- What holds of the answers of a run holds of what was told.
use Rattle.std.proofs.Common.{◌≡◌, List, map, IfOk, Ok, Err, vec_items, Result, Vec, sym, subst}
use Rattle.std.specs.declared.alloc.Global.{Global}
use Rattle.calls.specs.Runs as runs
use Rattle.replay.specs.Said.{said}
use Rattle.replay.specs.declared.answer.Answer.{Answer}

pub lawful : {E : Type 0} → (P : List runs.Answer → Type 0) (all : List runs.Answer) (r : Result (Vec Answer Global) E) → IfOk r (λ os. map said (vec_items os) ≡ all) → P all → IfOk r (λ os. P (map said (vec_items os)))
lawful P all (Ok os) told p = subst P (sym told) p
lawful P all (Err e) told p = tt
