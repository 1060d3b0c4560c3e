use Rattle.std.proofs.Common.{map, vec_items, arith}
use Rattle.std.proofs.lemmas.List.{length-map}
use Rattle.form.specs.Keys.{arg_keys, keys_from}
use Rattle.calls.specs.Marked.{arg_entry}
use Rattle.book_tables.specs.Held.{held, arg_held, row_held}
use Rattle.book.specs.KeyRows.{key_held}
use Rattle.book.proofs.Fills.{keys_here, keys_past, part_pushed, part_room, none_left}
use Rattle.book.proofs.key_pushes.push_all.Goals as goal

pub push_arg-requires : goal.push_arg-requires
push_arg-requires c =
    let rs = map row_held c.args.rows.now in
    let xs = c.args.args.now in
    let i = c.loop-place.place in
    let ks = vec_items c.loop-place.keys.list in
    let start = vec_items c.args.keys.now.list in
    let room = part_room (map key_held ks) (map key_held start) (arg_keys i (arg_entry rs (held arg_held c.index-args-place.result))) _ _ (keys_from 0 (map (arg_entry rs) (map (held arg_held) xs))) (keys_here (held arg_held) (arg_entry rs) xs i c.index-args-place.result c.loop-place-test.true c.index-args-place.is) c.loop-place.invariant in
    omega (arith, room, c.requires, length-map ks key_held, length-map start key_held)

pub loop-place-preserved : goal.loop-place-preserved
loop-place-preserved c =
    let rs = map row_held c.args.rows.now in
    part_pushed _ _ _ _ _ _ (keys_here (held arg_held) (arg_entry rs) c.args.args.now c.loop-place.place c.index-args-place.result c.loop-place-test.true c.index-args-place.is) c.push_arg.ensures c.loop-place.invariant

pub returns : goal.returns
returns c =
    let rs = map row_held c.args.rows.now in
    none_left _ _ _ (keys_past (held arg_held) (arg_entry rs) c.args.args.now c.loop-place.place c.loop-place-test.false) c.loop-place.invariant
