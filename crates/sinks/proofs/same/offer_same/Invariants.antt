use Rattle.std.specs.List.{range_with_len}
use Rattle.rules.specs.Order.{when}
use Rattle.sinks.proofs.Walks.{Walked}
use Rattle.sinks.proofs.same.offer_same.Given as goal

abbrev pub invariant-loop-place : goal.invariant-loop-place
invariant-loop-place g l =
    Walked g.S.Sink (λ j _. when (g.R.Row.twin l.row l.sought j) (g.R.Row.tells l.row j)) l.from (range_with_len 0 l.to) l.initial.sink l.place l.sink
