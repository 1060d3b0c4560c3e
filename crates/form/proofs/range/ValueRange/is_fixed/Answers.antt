use Rattle.std.proofs.Common.{refl, eq-eqb, eqb-true}
use Rattle.form.specs.Bounds.{bounds}
use Rattle.form.proofs.Counts.{fixed_only, only_fixed}
use Rattle.form.proofs.range.ValueRange.is_fixed.Goals as goal

pub returns : goal.returns
returns c =
    let r = c.args.self.now in
    record {
      value = refl;
      means = (λ t. fixed_only (bounds r) (eqb-true _ _ t), λ o. eq-eqb _ _ (only_fixed (bounds r) _ r.ordered o));
    }
