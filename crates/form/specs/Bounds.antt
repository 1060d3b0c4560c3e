-- The range that a ValueRange means.
use Rattle.std.specs.Prelude.{Ok, Err, Result}
use Rattle.form.specs.Model.{Range}
use Rattle.form.specs.declared.range.ValueRange.{ValueRange}

abbrev pub bounds : ValueRange → Range
bounds r = record { least = r.start_inclusive; most = r.end_inclusive }

-- the same of an answer that may be a refusal
abbrev pub bounded : {E : Type 0} → Result ValueRange E → Result Range E
bounded (Ok r) = Ok (bounds r)
bounded (Err e) = Err e
