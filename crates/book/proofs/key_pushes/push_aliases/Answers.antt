use Rattle.std.proofs.Common.{[], ◌∷◌, ◌++◌, map, vec_items, sym, ap, ◌∙◌, arith}
use Rattle.std.proofs.lemmas.List.{length-map}
use Rattle.book_tables.specs.Held.{row_held}
use Rattle.book_tables.specs.Rows.{items_of}
use Rattle.book.specs.KeyRows.{key_held, keyed_at, alias_key}
use Rattle.book.proofs.Fills.{alias_keys, alias_added, alias_passed, alias_past, keyed_long, part_pushed, part_room, none_left}
use Rattle.book.proofs.key_pushes.push_aliases.Goals as goal
use Rattle.book.proofs.key_pushes.push_aliases.Goals.{then-adds_to, else-adds_to}

pub push_key-requires : goal.push_key-requires
push_key-requires c =
    let k = c.args.mark in
    let l = c.args.list in
    let p = c.args.place in
    let rs = c.args.rows.now in
    let ks = vec_items c.loop-row.keys.list in
    let start = vec_items c.args.keys.now.list in
    let first = alias_added k l p rs c.loop-row.row-index c.row-item.result c.loop-row-test.true c.row-item.is (sym c.if-adds_to.ensures) in
    let room = part_room (map key_held ks) (map key_held start) (keyed_at p (alias_key (row_held c.row-item.result).item) ∷ []) _ _ (alias_keys k l p rs) first c.loop-row.invariant in
    omega (arith, room, c.requires, length-map ks key_held, length-map start key_held, keyed_long (keyed_at p) alias_key (items_of k l (map row_held rs)))

pub loop-row-preserved : goal.loop-row-preserved
loop-row-preserved c =
    let k = c.args.mark in
    let l = c.args.list in
    let p = c.args.place in
    let rs = c.args.rows.now in
    let i = c.loop-row.row-index in
    let r = c.row-item.result in
    let lt = c.loop-row-test.true in
    elim c.if-adds_to.branch [
      | then-adds_to w ↦ rw w.keys-is (part_pushed _ _ _ _ _ _ (alias_added k l p rs i r lt c.row-item.is (sym c.adds_to.ensures ∙ w.if-adds_to.true)) (w.push_key.ensures ∙ ap (λ n. map key_held (vec_items c.loop-row.keys.list) ++ (keyed_at p n ∷ [])) w.alias_key.ensures) c.loop-row.invariant)
      | else-adds_to w ↦ rw w.keys-is (ap (λ ks. map key_held (vec_items c.loop-row.keys.list) ++ ks) (sym (alias_passed k l p rs i r lt c.row-item.is (sym c.adds_to.ensures ∙ w.if-adds_to.false))) ∙ c.loop-row.invariant)
    ]

pub returns : goal.returns
returns c = none_left _ _ _ (alias_past c.args.mark c.args.list c.args.place c.args.rows.now c.loop-row.row-index c.loop-row-test.false) c.loop-row.invariant
