-- The pair search over a table, and the rows of a report on later entries.
use Rattle.std.proofs.Common.{◌≡◌, ℕ, suc, ◌+◌, Bool, List, length, subst, add-one}
use Rattle.form.specs.Model.{Arg, Group, Form, blank_arg, blank_group}
use Rattle.rules.specs.declared.rule.Rule.{Rule}
use Rattle.rules.specs.declared.breach.Entry.{Entry}
use Rattle.rules.specs.declared.breach.Breach.{Breach}
use Rattle.rules.specs.Order.{when}
use Rattle.rules.specs.Told.{argument, group, of_two}
use Rattle.rules.specs.Rows.{later, later_group, with_argument, arg_of}
use Rattle.rules.specs.Report.{arg_report, group_report}
use Rattle.sinks.specs.Alike.{between}
use Rattle.survey.specs.Groups.{group_of}
use Rattle.sinks.proofs.Walks.{between_is}

later_told : (f : Form) (p m : ℕ) (o : Entry) (r : Rule) (cnd : Arg → Arg → Bool) (t : ℕ → Bool) → o ≡ argument p → m ≡ length f.args → ((j : ℕ) → t j ≡ cnd (arg_of f p) (arg_of f j))
    → between (λ j. when (t j) (of_two r o (argument j))) (p + 1) m ≡ arg_report f p (arg_of f p) (later r cnd)
later_told f p m o r cnd t e len same =
    rw add-one (between_is (λ j. when (t j) (of_two r o (argument j))) (λ j b. when (cnd (arg_of f p) b) (of_two r (argument p) (argument j))) blank_arg (suc p) m f.args len (λ j. rw (e, same j)))

-- a sink that was offered the twins among the later arguments was offered the row
pub later_by : {S : Type 0} (after : S → List Breach → S → Type 0) (s u : S) (f : Form) (p m : ℕ) (o : Entry) (r : Rule) (cnd : Arg → Arg → Bool) (t : ℕ → Bool)
    → o ≡ argument p → m ≡ length f.args → ((j : ℕ) → t j ≡ cnd (arg_of f p) (arg_of f j))
    → after s (between (λ j. when (t j) (of_two r o (argument j))) (p + 1) m) u → after s (arg_report f p (arg_of f p) (later r cnd)) u
later_by after s u f p m o r cnd t e len same a = subst (λ l. after s l u) (later_told f p m o r cnd t e len same) a

-- the same over later groups
pub later_group_by : {S : Type 0} (after : S → List Breach → S → Type 0) (s u : S) (f : Form) (p m : ℕ) (o : Entry) (r : Rule) (cnd : Group → Group → Bool) (t : ℕ → Bool)
    → o ≡ group p → m ≡ length f.groups → ((j : ℕ) → t j ≡ cnd (group_of f p) (group_of f j))
    → after s (between (λ j. when (t j) (of_two r o (group j))) (p + 1) m) u → after s (group_report f p (group_of f p) (later_group r cnd)) u
later_group_by after s u f p m o r cnd t e len same a = subst (λ l. after s l u)
    (rw add-one (between_is (λ j. when (t j) (of_two r o (group j))) (λ j b. when (cnd (group_of f p) b) (of_two r (group p) (group j))) blank_group (suc p) m f.groups len (λ j. rw (e, same j)))) a

-- and of a group with all arguments
pub with_argument_by : {S : Type 0} (after : S → List Breach → S → Type 0) (s u : S) (f : Form) (p m : ℕ) (o : Entry) (r : Rule) (cnd : Group → Arg → Bool) (t : ℕ → Bool)
    → o ≡ group p → m ≡ length f.args → ((j : ℕ) → t j ≡ cnd (group_of f p) (arg_of f j))
    → after s (between (λ j. when (t j) (of_two r o (argument j))) 0 m) u → after s (group_report f p (group_of f p) (with_argument r cnd)) u
with_argument_by after s u f p m o r cnd t e len same a = subst (λ l. after s l u)
    (between_is (λ j. when (t j) (of_two r o (argument j))) (λ j b. when (cnd (group_of f p) b) (of_two r (group p) (argument j))) blank_arg 0 m f.args len (λ j. rw (e, same j))) a
