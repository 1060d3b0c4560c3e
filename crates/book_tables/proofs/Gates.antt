-- A record passes the tests of its names and letters, or is refused there; and what that makes of a call.
use Rattle.std.proofs.Common.{◌≡◌, ℕ, Bool, true, false, cond, not, is_ok, Ok, Err, Result, sym, refl, ap, ◌∙◌, arith}
use Rattle.form.specs.declared.refusal.Refusal.{Refusal}
use Rattle.form.specs.declared.refusal.Refusal.TheVariants.{NameLength, NoScalar}
use Rattle.calls.specs.Marked.{MarkedForm}
use Rattle.form.specs.Model.{Name}
use Rattle.calls.specs.Calls.{RecordOf, group, good_name, good_names, good_letters, enter_answer, added, entered, full}
use Rattle.book_tables.specs.Steps.{mark_answer}
use Rattle.book_tables.specs.Taken.{name_taken, all_good_or}

-- the two tests, and what follows them
gate : {X : Type 0} → Bool → Bool → Result X Refusal → Result X Refusal
gate names letters rest = cond (not names) (Err NameLength) (cond (not letters) (Err NoScalar) rest)

stopped : {X Y : Type 0} (n l : Bool) (x : X) (rest : Result Y Refusal) (e : Refusal) → Err e ≡ gate n l (Ok x) → Err e ≡ gate n l rest
unfolding gate
stopped false l x rest e is = let h : e ≡ NameLength = cc in ap Err h
stopped true false x rest e is = let h : e ≡ NoScalar = cc in ap Err h
stopped true true x rest e is = absurd (let z : ◌≡◌ {A = ℕ} 0 1 = cc in omega arith)

passed : {X Y : Type 0} (n l : Bool) (x y : X) (rest : Result Y Refusal) → Ok y ≡ gate n l (Ok x) → (y ≡ x) × (gate n l rest ≡ rest)
unfolding gate
passed false l x y rest is = absurd (let z : ◌≡◌ {A = ℕ} 0 1 = cc in omega arith)
passed true false x y rest is = absurd (let z : ◌≡◌ {A = ℕ} 0 1 = cc in omega arith)
passed true true x y rest is = (cc, refl)

-- what was refused is refused in any call that tries it
pub stopped_at : {X Y : Type 0} (r : RecordOf) (x : X) (rest : Result Y Refusal) (e : Refusal) → Err e ≡ all_good_or r x
    → Err e ≡ cond (not (good_names r)) (Err NameLength) (cond (not (good_letters r)) (Err NoScalar) rest)
unfolding gate
stopped_at r x rest e is = stopped (good_names r) (good_letters r) x rest e is

-- what was taken is what is kept, and the call goes on
pub passed_by : {X Y : Type 0} (r : RecordOf) (x y : X) (rest : Result Y Refusal) → Ok y ≡ all_good_or r x
    → (y ≡ x) × (cond (not (good_names r)) (Err NameLength) (cond (not (good_letters r)) (Err NoScalar) rest) ≡ rest)
unfolding gate
passed_by r x y rest is = passed (good_names r) (good_letters r) x y rest is

pub entered_refused : (m : MarkedForm) (r : RecordOf) (e : Refusal) → Err e ≡ enter_answer m r → m ≡ entered m r
entered_refused m r e is = ap (λ a. cond (is_ok a) (added m r) m) is

-- what was taken is kept, and the table answers for the call
pub enter_answered : {X : Type 0} (m : MarkedForm) (r : RecordOf) (x y : X) (a : Result ℕ Refusal) → Ok y ≡ all_good_or r x → a ≡ mark_answer (full m r) m.next
    → (y ≡ x) × (a ≡ enter_answer m r)
enter_answered m r x y a is to = let p = passed_by r x y (mark_answer (full m r) m.next) is in (p.0, to ∙ sym p.1)

-- a group's one name
pub group_gate : (x : Name) → name_taken x ≡ all_good_or (group x) x
group_gate x =
    elim (good_name x) as (λ t. cond t (Ok x) (Err NameLength) ≡ cond (not t) (Err NameLength) (cond (not true) (Err NoScalar) (Ok x))) [ true ↦ refl | false ↦ refl ]
