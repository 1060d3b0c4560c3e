use Rattle.std.proofs.Common.{rules, tests}
use Rattle.std.proofs.lemmas.Iterator.{YieldsList-from_slice}
use Rattle.std.proofs.lemmas.Iterator.Consumers.{YieldsList-from_filter, nth_from_yields_List}
use Rattle.book_tables.specs.Held.{row_held}
use Rattle.book_tables.specs.Rows.{row_adds}
use Rattle.book_tables.proofs.rows.nth_item.Goals as goal

pub returns : goal.returns
returns c =
    nth_from_yields_List _ _ c.args.item c.nth.ensures.ran (YieldsList-from_filter _ (λ r. row_adds c.args.mark c.args.list (row_held r)) (YieldsList-from_slice c.args.rows.now (cc)) c.filter.ensures.closure (λ x r q k. search (rules, tests)))
