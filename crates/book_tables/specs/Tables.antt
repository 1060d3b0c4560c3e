-- What the tables of a book mean.
use Rattle.std.specs.Prelude.{map, vec_items}
use Rattle.form.specs.NameBytes.{name_bytes}
use Rattle.calls.specs.Marked.{MarkedForm}
use Rattle.book_tables.specs.Held.{arg_held, subcommand_held, held, row_held}
use Rattle.book_tables.specs.declared.tables.Tables.{Tables}

-- each entry and each row, without regard to how it is held
unfoldable pub tables_marked : Tables → MarkedForm
tables_marked t = record {
  settings = t.settings.bits;
  args = map (held arg_held) (vec_items t.args.list);
  groups = map (held name_bytes) (vec_items t.groups.list);
  subcommands = map (held subcommand_held) (vec_items t.subcommands.list);
  rows = map row_held (vec_items t.rows.list);
  next = t.next;
}
