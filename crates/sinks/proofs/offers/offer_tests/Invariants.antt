use Rattle.rules.specs.Order.{when}
use Rattle.rules.specs.Told.{of_one}
use Rattle.sinks.proofs.Walks.{Walked}
use Rattle.sinks.proofs.offers.offer_tests.Given as goal

abbrev pub invariant-loop-broken : goal.invariant-loop-broken
invariant-loop-broken g l = Walked g.S.Sink (λ _ t. when t.0 (of_one t.1 l.owner)) 0 l.tests l.initial.sink l.broken-index l.sink
