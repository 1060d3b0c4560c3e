use Rattle.std.proofs.Common.{◌≡◌, ◌<◌, [], ◌++◌, length, Break, arith}
use Rattle.form.specs.Model.{blank_arg}
use Rattle.form.specs.declared.lists.ItemList.TheVariants.{Requires}
use Rattle.rules.specs.Order.{blocks}
use Rattle.rules.specs.Report.{section_report}
use Rattle.rules.specs.Rows.{by_argument, arg_rows}
use Rattle.sinks.specs.Flow.{flow}
use Rattle.sinks.proofs.Walks.{breaks, then_more, then_stop, walk_step, walk_end, walk_stop}
use Rattle.survey.specs.Parts.{rows_told, before_rows, after_rows, references, list_told}
use Rattle.survey.proofs.Tables.{all_told}
use Rattle.survey.proofs.arguments.survey_arguments.Goals.{else-walk-test, then-walk-test+then-is_break, then-walk-test+else-is_break+then-loop-list-test+then-loop-item-test+then-is_break-2, then-walk-test+else-is_break+else-loop-list-test+then-is_break-3}
use Rattle.survey.proofs.arguments.survey_arguments.Goals as goal

pub loop-item-preserved : goal.loop-item-preserved
loop-item-preserved g c = walk_step [] (omega arith) c.loop-item.invariant (rw (c.new-arg.ensures.form, c.new-arg.ensures.place) at c.offer_item_rules.ensures.took)

pub loop-list-preserved : goal.loop-list-preserved
loop-list-preserved g c = walk_step Requires (omega arith) c.loop-list.invariant (walk_end (omega arith) c.loop-item.invariant)

pub walk-preserved : goal.walk-preserved
walk-preserved g c =
    let k = g.S.Sink in
    let before = rw (c.new-arg.ensures.form, c.new-arg.ensures.place) at c.offer_before_items.ensures.took in
    let past = rw (c.new-arg.ensures.form, c.new-arg.ensures.place) at c.offer_after_rules.ensures.took in
    let here : k.after c.walk.sink (rows_told (g.F.FormSource.form c.args.form.now) c.walk.place arg_rows) c.offer_after_rules.new.sink =
    rw (all_told (g.F.FormSource.form c.args.form.now) c.walk.place) (then_more k _ _ before (then_more k _ _ (walk_end (omega arith) c.loop-list.invariant) past)) in
    walk_step blank_arg (omega arith) c.walk.invariant here

pub returns-clause-took : goal.returns-clause-took
returns-clause-took g c =
    let k = g.S.Sink in
    let f = g.F.FormSource.form c.args.form.now in
    let p = c.walk.place in
    -- left in the argument's turn
    let left : (t : g.row.S.Denot) → p < length f.args → Break tt ≡ flow (k.full t) → k.after c.walk.sink (rows_told f p before_rows ++ (blocks (λ _ x. list_told f p x) 0 references ++ rows_told f p after_rows)) t → k.after c.args.sink.now (section_report f (by_argument 4 arg_rows)) t
    = λ t lt off here. walk_stop blank_arg lt c.walk.invariant (rw (all_told f p) here) off in
    elim c.walk-test.branch [
      | else-walk-test w ↦ rw w.sink-is (walk_end (omega arith) c.walk.invariant)
      | then-walk-test+then-is_break w ↦
          let off = breaks _ w.offer_before_items.ensures.goes w.is_break.ensures w.if-is_break.true in
          let before = rw (w.new-arg.ensures.form, w.new-arg.ensures.place) at w.offer_before_items.ensures.took in
          rw w.sink-is (left _ (omega arith) off (then_stop k _ _ before off))
      | then-walk-test+else-is_break+then-loop-list-test+then-loop-item-test+then-is_break-2 w ↦
          let off = breaks _ w.offer_item_rules.ensures.goes w.is_break-in-loop-item.ensures w.if-is_break-2.true in
          let before = rw (w.new-arg.ensures.form, w.new-arg.ensures.place) at w.offer_before_items.ensures.took in
          let here = rw (w.new-arg.ensures.form, w.new-arg.ensures.place) at w.offer_item_rules.ensures.took in
          let all = walk_stop Requires (omega arith) w.loop-list.invariant (walk_stop [] (omega arith) w.loop-item.invariant here off) off in
          rw w.sink-is (left _ (omega arith) off (then_more k _ _ before (then_stop k _ _ all off)))
      | then-walk-test+else-is_break+else-loop-list-test+then-is_break-3 w ↦
          let off = breaks _ w.offer_after_rules.ensures.goes w.is_break-in-walk.ensures w.if-is_break-3.true in
          let before = rw (w.new-arg.ensures.form, w.new-arg.ensures.place) at w.offer_before_items.ensures.took in
          let past = rw (w.new-arg.ensures.form, w.new-arg.ensures.place) at w.offer_after_rules.ensures.took in
          rw w.sink-is (left _ (omega arith) off (then_more k _ _ before (then_more k _ _ (walk_end (omega arith) w.loop-list.invariant) past)))
    ]
