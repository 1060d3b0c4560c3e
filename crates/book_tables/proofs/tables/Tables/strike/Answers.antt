use Rattle.std.proofs.Common.{not, eqb, map, vec_items, sym, ap, ◌∙◌}
use Rattle.form.specs.NameBytes.{name_bytes}
use Rattle.book_tables.specs.Held.{held, arg_held, subcommand_held, row_held}
use Rattle.book_tables.specs.Tables.{tables_marked}
use Rattle.book_tables.proofs.Marks.{climbing_kept}
use Rattle.book_tables.proofs.Alters.{map_kept_by, strike_known}
use Rattle.book_tables.proofs.tables.Tables.strike.Goals as goal

pub invariant_of-self : goal.invariant_of-self
invariant_of-self c =
    let s = c.args.self.now in
    let k = c.args.mark in
    record {
      last = s.last;
      args_order = rw c.sweep.ensures (climbing_kept 1 k (vec_items s.args.list) s.next s.args_order);
      groups_order = rw c.sweep-2.ensures (climbing_kept 1 k (vec_items s.groups.list) s.next s.groups_order);
      subcommands_order = rw c.sweep-3.ensures (climbing_kept 1 k (vec_items s.subcommands.list) s.next s.subcommands_order);
    }

pub returns : goal.returns
unfolding tables_marked
returns c =
    let s = c.args.self.now in
    let k = c.args.mark in
    let args = ap (map (held arg_held)) c.sweep.ensures ∙ map_kept_by (held arg_held) (λ e. not (eqb e.mark k)) (vec_items s.args.list) in
    let groups = ap (map (held name_bytes)) c.sweep-2.ensures ∙ map_kept_by (held name_bytes) (λ e. not (eqb e.mark k)) (vec_items s.groups.list) in
    let subcommands = ap (map (held subcommand_held)) c.sweep-3.ensures ∙ map_kept_by (held subcommand_held) (λ e. not (eqb e.mark k)) (vec_items s.subcommands.list) in
    let rows = ap (map row_held) c.sweep-4.ensures ∙ map_kept_by row_held (λ r. not (eqb r.owner k)) (vec_items s.rows.list) in
    let l = strike_known (tables_marked s) _ k (sym c.if-not-is_marked.ensures) (rw (args, groups, subcommands, rows)) in
    record { answer = l.0; after = l.1 }
