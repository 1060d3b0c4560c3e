use Rattle.std.proofs.Common.{length, sym, ◌∙◌}
use Rattle.form.specs.Limits.{arg_items, group_items, subcommand_items, summed}
use Rattle.table.specs.Entries.{arg_of, group_of, subcommand_of}
use Rattle.table.proofs.Caps.{within_rows, items_decide, items_counted}
use Rattle.table.proofs.table_form.Tables.is_within.Goals as goal

pub returns : goal.returns
returns c =
    let args = c.args.self.now.args.now in
    let groups = c.args.self.now.groups.now in
    let subcommands = c.args.self.now.subcommands.now in
    items_counted c.saturating_add-items.result c.total_items.result c.total_items-2.result c.total_items-3.result c.saturating_add.result
    (summed (λ r. arg_items (arg_of r)) args) (summed (λ r. group_items (group_of r)) groups) (summed (λ r. subcommand_items (subcommand_of r)) subcommands)
    c.total_items.ensures c.total_items-2.ensures c.total_items-3.ensures c.saturating_add.ensures c.saturating_add-items.ensures
    ∙ items_decide (length args) (length groups) (length subcommands) _ c.if-self-gt-MAX_ARGS.false c.if-self-gt-MAX_GROUPS.false c.if-self-gt-MAX_SUBCOMMANDS.false
    ∙ sym (within_rows 0 args groups subcommands)
