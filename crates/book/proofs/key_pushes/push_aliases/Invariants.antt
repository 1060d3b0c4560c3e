use Rattle.std.proofs.Common.{◌≡◌, ◌++◌, map, drop, vec_items}
use Rattle.book.specs.KeyRows.{key_held}
use Rattle.book.proofs.Fills.{alias_keys}
use Rattle.book.proofs.key_pushes.push_aliases.Given as goal

-- the keys so far, and those of the rows to come
abbrev pub invariant-loop-row : goal.invariant-loop-row
invariant-loop-row l =
    map key_held (vec_items l.keys.list) ++ alias_keys l.mark l.list l.place (drop l.row-index l.rows)
    ≡ map key_held (vec_items l.initial.keys.list) ++ alias_keys l.mark l.list l.place l.rows
