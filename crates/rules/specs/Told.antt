-- What a breach tells: its rule, the entries that it concerns, the list, and an item number for each entry.
use Rattle.std.specs.Prelude.{ℕ, Some, None}
use Rattle.form.specs.declared.lists.EntryKind.TheVariants as kind
use Rattle.form.specs.declared.lists.ItemList.{ItemList}
use Rattle.rules.specs.declared.rule.Rule.{Rule}
use Rattle.rules.specs.declared.breach.Entry.{Entry}
use Rattle.rules.specs.declared.breach.Breach.{Breach}

-- the entries of the three tables
abbrev pub argument : ℕ → Entry
argument p = record { kind = kind.Argument; place = p }

abbrev pub group : ℕ → Entry
group p = record { kind = kind.Group; place = p }

abbrev pub subcommand : ℕ → Entry
subcommand p = record { kind = kind.Subcommand; place = p }

-- a breach of the whole form
abbrev pub of_form : Rule → Breach
of_form r = record { rule = r; first = None; second = None; list = None; item = 0; other = 0 }

-- of one entry
abbrev pub of_one : Rule → Entry → Breach
of_one r e = record { rule = r; first = Some e; second = None; list = None; item = 0; other = 0 }

-- of one entry and one of its settings, told by its bit
abbrev pub of_bit : Rule → Entry → ℕ → Breach
of_bit r e k = record { rule = r; first = Some e; second = None; list = None; item = k; other = 0 }

-- of item k of a list of an entry
abbrev pub of_item : Rule → Entry → ItemList → ℕ → Breach
of_item r e l k = record { rule = r; first = Some e; second = None; list = Some l; item = k; other = 0 }

-- of two entries
abbrev pub of_two : Rule → Entry → Entry → Breach
of_two r e d = record { rule = r; first = Some e; second = Some d; list = None; item = 0; other = 0 }

-- of flag or name k of one owner and m of another: 0 is the flag or name itself, an alias is 1 + its place
abbrev pub of_flags : Rule → Entry → ℕ → Entry → ℕ → Breach
of_flags r e k d m = record { rule = r; first = Some e; second = Some d; list = None; item = k; other = m }
