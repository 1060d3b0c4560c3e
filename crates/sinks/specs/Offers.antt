-- What a list of tests tells.
use Rattle.std.specs.Prelude.{Bool, List}
use Rattle.rules.specs.declared.rule.Rule.{Rule}
use Rattle.rules.specs.declared.breach.Entry.{Entry}
use Rattle.rules.specs.declared.breach.Breach.{Breach}
use Rattle.rules.specs.Order.{blocks, when}
use Rattle.rules.specs.Told.{of_one}

-- the rule of each test that came out true, of one entry
abbrev pub tests_told : Entry → List (Bool × Rule) → List Breach
tests_told e tests = blocks (λ _ t. when t.0 (of_one t.1 e)) 0 tests
