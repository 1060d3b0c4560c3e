use Rattle.std.proofs.Common.{rules, tests}
use Rattle.std.proofs.lemmas.Fn.{filter_same}
use Rattle.book_tables.proofs.table.Table.sweep.Goals as goal

pub returns : goal.returns
returns g c = filter_same _ _ _ (λ x b f k. search (rules, tests)) _ _ c.retain.ensures.filtered
