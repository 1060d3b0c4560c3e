-- A call whose range was made is a call with the record that was made.
use Rattle.std.proofs.Common.{◌≡◌, ℕ, Bool, true, false, cond, List, Ok, Err, Result, sym, ap, arith}
use Rattle.std.specs.Borrow.{Bor}
use Rattle.form.specs.declared.refusal.RangeFault.{RangeFault}
use Rattle.form.specs.declared.refusal.RangeFault.TheVariants.{LeastAboveMost}
use Rattle.calls.specs.Calls.{RecordOf}
use Rattle.calls.specs.Runs.{CallOf, enter, alter, unmade}
use Rattle.calls.specs.Called.{can_make, record_called, enter_call, alter_call}
use Rattle.calls.specs.declared.call.Bounds.{Bounds}
use Rattle.calls.specs.declared.records.Record.{Record}
use Rattle.replay.specs.Ranged.{record_made}

made : (call : RecordOf → CallOf) (b : Bool) (y x : RecordOf) → ◌≡◌ {A = Result RecordOf RangeFault} (Ok x) (cond b (Ok y) (Err LeastAboveMost)) → cond b (call y) unmade ≡ call x
made call true y x e = let q : x ≡ y = cc in ap call (sym q)
made call false y x e = let z : ◌≡◌ {A = ℕ} 0 1 = cc in absurd (omega arith)

pub enter_made : (r : Record (Bor (List ℕ)) Bounds) (x : RecordOf) → Ok x ≡ record_made r → enter_call r ≡ enter x
enter_made r x e = made enter (can_make r) (record_called r) x e

pub alter_made : (k : ℕ) (r : Record (Bor (List ℕ)) Bounds) (x : RecordOf) → Ok x ≡ record_made r → alter_call k r ≡ alter k x
alter_made k r x e = made (alter k) (can_make r) (record_called r) x e
