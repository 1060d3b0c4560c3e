use Rattle.std.proofs.Common.{List, ◌++◌, map, length, vec_items, ap, ◌∙◌, arith}
use Rattle.form.specs.Keys.{Key, keys_from, keys_of}
use Rattle.form.specs.declared.name.Name.{Name}
use Rattle.form.specs.declared.views.ArgOf.{ArgOf}
use Rattle.calls.specs.Marked.{arg_entry, form_of}
use Rattle.keys.proofs.KeyLists.{keys_few}
use Rattle.book_tables.specs.declared.held.Held.{Held}
use Rattle.book_tables.specs.declared.held.ItemRow.{ItemRow}
use Rattle.book_tables.specs.Held.{held, arg_held, row_held}
use Rattle.book.specs.KeyRows.{key_held}
use Rattle.book.specs.SameKeys.{keys_themselves}
use Rattle.book_tables.specs.Tables.{tables_marked}
use Rattle.book_tables.specs.Fitted.{entries_long, arg_items_few}
use Rattle.book.proofs.states.OpenBook.build.Goals as goal

-- the keys of the tables' arguments
abbrev keys_in : List ItemRow → List (Held (ArgOf Name)) → List Key
keys_in rs es = keys_from 0 (map (arg_entry (map row_held rs)) (map (held arg_held) es))

pub push_all-requires : goal.push_all-requires
unfolding tables_marked
push_all-requires c =
    let b = c.args.self in
    let t = b.tables in
    let xs = (form_of (tables_marked t)).args in
    let same = ap (λ rs. keys_in rs c.as_slice.result.now) c.as_slice-2.ensures ∙ ap (keys_in (vec_items t.rows.list)) c.as_slice.ensures in
    omega (arith, keys_few 0 xs, arg_items_few t, entries_long (held arg_held) (arg_entry (tables_marked t).rows) (vec_items t.args.list), t.args.list.ok.0, t.args.few, ap length same, ap length b.none)

pub invariant_of-result : goal.invariant_of-result
unfolding tables_marked
invariant_of-result c =
    let b = c.args.self in
    let t = b.tables in
    let same = ap (λ rs. keys_in rs c.as_slice.result.now) c.as_slice-2.ensures ∙ ap (keys_in (vec_items t.rows.list)) c.as_slice.ensures in
    let all = c.push_all.ensures ∙ ap (λ ks. map key_held ks ++ keys_in c.as_slice-2.result.now c.as_slice.result.now) b.none ∙ same in
    record { keyed = keys_themselves _ (keys_of (form_of (tables_marked t))) all }
