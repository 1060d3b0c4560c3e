use Rattle.std.proofs.Common.{refl}
use Rattle.form.specs.Limits.{summed}
use Rattle.table.proofs.table_form.TableForm.refused.Goals as goal

pub invariant_of-result : goal.invariant_of-result
unfolding summed
invariant_of-result c = record { fits = refl }
