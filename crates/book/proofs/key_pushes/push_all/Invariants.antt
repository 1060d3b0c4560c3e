use Rattle.std.proofs.Common.{◌≡◌, ◌++◌, map, drop, vec_items}
use Rattle.form.specs.Keys.{keys_from}
use Rattle.calls.specs.Marked.{arg_entry}
use Rattle.book_tables.specs.Held.{held, arg_held, row_held}
use Rattle.book.specs.KeyRows.{key_held}
use Rattle.book.proofs.key_pushes.push_all.Given as goal

-- the keys so far, and those of the arguments to come
abbrev pub invariant-loop-place : goal.invariant-loop-place
invariant-loop-place l =
    map key_held (vec_items l.keys.list) ++ keys_from l.place (map (arg_entry (map row_held l.rows)) (map (held arg_held) (drop l.place l.args)))
    ≡ map key_held (vec_items l.initial.keys.list) ++ keys_from 0 (map (arg_entry (map row_held l.rows)) (map (held arg_held) l.args))
