use Rattle.std.proofs.Common.{sym, ◌∙◌}
use Rattle.form.specs.declared.lists.EntryKind.TheVariants.{Argument, Group, Subcommand}
use Rattle.table.proofs.Lists.{letters_shown}
use Rattle.table.proofs.table_form.TableForm.letters.Goals as goal

pub returns-in-Argument : goal.returns-in-Argument
returns-in-Argument c = c.letters_in.ensures ∙ letters_shown c.args.self.now.tables c.args.list c.args.place Argument (sym c.in-Argument.is ∙ c.owner.ensures)

pub returns-in-Group : goal.returns-in-Group
returns-in-Group c = c.letters_in-in-Group.ensures ∙ letters_shown c.args.self.now.tables c.args.list c.args.place Group (sym c.in-Group.is ∙ c.owner.ensures)

pub returns-in-Subcommand : goal.returns-in-Subcommand
returns-in-Subcommand c = c.letters_in-in-Subcommand.ensures ∙ letters_shown c.args.self.now.tables c.args.list c.args.place Subcommand (sym c.in-Subcommand.is ∙ c.owner.ensures)
