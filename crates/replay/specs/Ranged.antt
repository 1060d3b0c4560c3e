-- A record whose range was made, or left unset, or refused.
use Rattle.std.specs.Prelude.{ℕ, cond, List, Ok, Err, Option, Result}
use Rattle.std.specs.Borrow.{Bor}
use Rattle.std.specs.Option.{option_map}
use Rattle.form.specs.Model.{Range}
use Rattle.form.specs.Shown.{ArgRecord}
use Rattle.form.specs.declared.refusal.RangeFault.{RangeFault}
use Rattle.form.specs.declared.refusal.RangeFault.TheVariants.{LeastAboveMost}
use Rattle.calls.specs.Calls.{RecordOf}
use Rattle.calls.specs.Called.{range_of, ordered, can_make, arg_called, record_called}
use Rattle.calls.specs.declared.call.Bounds.{Bounds}
use Rattle.calls.specs.declared.records.ArgRecord.{ArgRecord as ArgIn}
use Rattle.calls.specs.declared.records.Record.{Record}

-- the range, or the record with it, where its least is not above its most
abbrev pub range_made : Option Bounds → Result (Option Range) RangeFault
range_made b = cond (ordered b) (Ok (option_map range_of b)) (Err LeastAboveMost)

abbrev pub arg_made : ArgIn (Bor (List ℕ)) Bounds → Result ArgRecord RangeFault
arg_made r = cond (ordered r.range) (Ok (arg_called r)) (Err LeastAboveMost)

abbrev pub record_made : Record (Bor (List ℕ)) Bounds → Result RecordOf RangeFault
record_made r = cond (can_make r) (Ok (record_called r)) (Err LeastAboveMost)
