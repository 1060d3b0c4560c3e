use Rattle.std.proofs.Common.{rules, ◌≡◌, [], None, Option, arith, ◌∙◌, sym, true}
use Rattle.std.proofs.lemmas.List.FromFn.{length-range_with_len}
use Rattle.rules.specs.Order.{when}
use Rattle.sinks.specs.Alike.{between}
use Rattle.sinks.proofs.Walks.{blocks_none, walk_step, walk_end, walk_stop, same_there, absent}
use Rattle.sinks.proofs.same.offer_same.Goals as goal
use Rattle.sinks.proofs.same.offer_same.Goals.{then-eq+in_ok-offer, else-eq}

-- nothing is sought
pub returns-then-is_none-clause-took : goal.returns-then-is_none-clause-took
returns-then-is_none-clause-took g c =
    let row = c.args.row.now in
    let nothing : (x : Option g.row.R-Element.Denot) → x ≡ None → between (λ j. when (g.R.Row.twin row x j) (g.R.Row.tells row j)) c.args.from c.args.to ≡ []
    = λ x e. blocks_none _ _ _ (λ j _. rw (e, g.R.Row.lone row j)) in
    rw (nothing c.args.sought (absent c.args.sought (search rules))) (g.S.Sink.none _)

pub loop-place-preserved : goal.loop-place-preserved
loop-place-preserved g c =
    let there = same_there _ c.args.sought c.at.result (search rules) in
    let twin = g.R.Row.twin c.args.row.now c.args.sought c.loop-place.place in
    let is : twin ≡ c.eq.result = sym (c.eq.ensures ∙ there ∙ c.at.ensures c.args.sought) in
    let here : g.S.Sink.after c.loop-place.sink (when twin (g.R.Row.tells c.args.row.now c.loop-place.place)) c.if-eq.sink = elim c.if-eq.branch [
      | then-eq+in_ok-offer w ↦ rw (w.sink-is, is ∙ w.if-eq.true) (rw w.tell.ensures at w.offer.ensures.took)
      | else-eq w ↦ rw (w.sink-is, is ∙ w.if-eq.false) (g.S.Sink.none _)
    ] in
    walk_step 0 (simp length-range_with_len (omega arith)) c.loop-place.invariant here

pub returns-in_err-offer-clause-took : goal.returns-in_err-offer-clause-took
returns-in_err-offer-clause-took g c =
    let there = same_there _ c.args.sought c.at.result (search rules) in
    let is : g.R.Row.twin c.args.row.now c.args.sought c.loop-place.place ≡ true = sym (c.eq.ensures ∙ there ∙ c.at.ensures c.args.sought) ∙ c.if-eq.true in
    walk_stop 0 (simp length-range_with_len (omega arith)) c.loop-place.invariant (rw is (rw c.tell.ensures at c.offer.ensures.took)) c.in_err-offer.ensures.goes

pub returns-clause-took : goal.returns-clause-took
returns-clause-took g c = walk_end (simp length-range_with_len (omega arith)) c.loop-place.invariant
