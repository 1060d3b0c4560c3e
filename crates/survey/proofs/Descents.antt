-- The walk over the positions, from the highest down.
use Rattle.std.proofs.Common.{◌≡◌, ℕ, suc, ◌-◌, ◌≤◌, Bool, true, false, cond, not, ◌&&◌, ◌||◌, List, [], ◌++◌, Some, None, sym, refl, ap, ◌∙◌, add-one, arith}
use native.Mathlib.Nat.{sub_self}
use Rattle.std.specs.List.{range_with_len}
use Rattle.form.specs.Model.{Form}
use Rattle.form.specs.Settings.{arg_set}
use Rattle.form.specs.declared.arg_settings.ArgSettings.TheVariants.{Required}
use Rattle.rules.specs.Order.{blocks, some, when}
use Rattle.rules.specs.Words.{position_count}
use Rattle.rules.specs.Rows.{arg_of, first_at, settled, settled_above}
use Rattle.rules.specs.Report.{down, position_report}
use Rattle.rules.specs.Told.{argument, of_one}
use Rattle.rules.specs.declared.rule.Rule.TheVariants.{OptionalBeforeRequired}
use Rattle.rules.specs.declared.breach.Breach.{Breach}
use Rattle.survey.proofs.Tables.{blocks_from}
use Rattle.survey.specs.Settled.{settles}
use Rattle.std.specs.Bool.{⊤}
use Rattle.std.proofs.Common.{Break}
use Rattle.sinks.specs.Flow.{flow}
use Rattle.sinks.specs.declared.sink.Sink.{Ghosts}
use Rattle.sinks.proofs.Walks.{then_stop}

-- what the position n tells, and what the positions from n down to 1 tell
abbrev pub told_at : Form → ℕ → List Breach
told_at f n = position_report f n (first_at n 0 f.args)

abbrev pub told_down : Form → ℕ → List Breach
told_down f n = blocks (λ _ m. told_at f m) 0 (down n)

pub told_more : (f : Form) (n m : ℕ) → n ≡ suc m → told_down f n ≡ told_at f n ++ told_down f m
unfolding blocks
told_more f n m e = rw e (ap (λ l. told_at f (suc m) ++ l) (blocks_from (told_at f) 1 0 (down m)))

pub told_none : (f : Form) (n : ℕ) → n ≡ 0 → told_down f n ≡ []
unfolding blocks
told_none f n e = rw e

above_from : (f : Form) (m k : ℕ) → some (settled f) (range_with_len (suc m) (suc k)) ≡ cond (settled f (suc m)) true (some (settled f) (range_with_len (suc (suc m)) k))
above_from f m k = rw (add-one (suc m))

pub above_more : (f : Form) (n m : ℕ) → n ≡ suc m → n ≤ position_count f → settled_above f m ≡ cond (settled f n) true (settled_above f n)
above_more f n m e l =
    let less : position_count f - m ≡ suc (position_count f - suc m) = omega arith in
    rw (e, less) (above_from f m (position_count f - suc m))

pub above_none : (f : Form) → settled_above f (position_count f) ≡ false
above_none f = rw (sub_self (position_count f))

-- The walk from the state s: the positions from n down are left, in the state t; `found` is whether a higher one is settled.
pub record Descent {S : Type 0} (after : S → List Breach → S → Type 0) (f : Form) (s : S) (n : ℕ) (t : S) (found : Bool) : Type 0 where
  pub rest : (u : S) → after t (told_down f n) u → after s (told_down f (position_count f)) u
  pub above : found ≡ settled_above f n
  pub within : n ≤ position_count f

pub descent_start : {S : Type 0} (after : S → List Breach → S → Type 0) (f : Form) (s : S) (n : ℕ) → n ≡ position_count f → Descent after f s n s false
descent_start after f s n e = record { rest = λ u a. rw e at a; above = sym (rw e (above_none f)); within = omega arith }

pub descent_step : {S : Type 0} (after : S → List Breach → S → Type 0) → ((s t u : S) (xs ys : List Breach) → after s xs t → after t ys u → after s (xs ++ ys) u)
    → (f : Form) (s t t' : S) (n m : ℕ) (found found' : Bool) → n ≡ suc m → Descent after f s n t found → after t (told_at f n) t' → found' ≡ cond (settled f n) true found → Descent after f s m t' found'
descent_step after more f s t t' n m found found' e d here is = record {
  rest = λ u a. d.rest u (rw (told_more f n m e) (more t t' u _ _ here a));
  above = is ∙ ap (λ b. cond (settled f n) true b) d.above ∙ sym (above_more f n m e d.within);
  within = omega (arith, d.within);
}

pub descent_end : {S : Type 0} (after : S → List Breach → S → Type 0) → ((s : S) → after s [] s)
    → (f : Form) (s t : S) (n : ℕ) (found : Bool) → n ≡ 0 → Descent after f s n t found → after s (told_down f (position_count f)) t
descent_end after none f s t n found e d = d.rest t (rw (told_none f n e) (none t))

pub descent_stop : {S : Type 0} (k : Ghosts S) (f : Form) (s t t' : S) (n m : ℕ) (found : Bool) {b : ⊤} → n ≡ suc m → Descent k.after f s n t found → k.after t (told_at f n) t' → Break b ≡ flow (k.full t') → k.after s (told_down f (position_count f)) t'
descent_stop k f s t t' n m found e d here off = d.rest t' (rw (told_more f n m e) (then_stop k _ _ here off))

-- One position: the first argument there tells, and settles it; none does neither.
pub told_some : (f : Form) (n p : ℕ) (b found : Bool) (x : Breach) → Some p ≡ first_at n 0 f.args → found ≡ settled_above f n → b ≡ (not (arg_set (arg_of f p).settings Required) && found) → x ≡ of_one OptionalBeforeRequired (argument p) → told_at f n ≡ when b x
told_some f n p b found x at above test breach = rw (← at, ← above, ← test, ← breach)

pub told_absent : (f : Form) (n : ℕ) → None ≡ first_at n 0 f.args → told_at f n ≡ []
told_absent f n at = rw (← at)

pub settled_some : (f : Form) (n p : ℕ) (found b : Bool) → Some p ≡ first_at n 0 f.args → b ≡ settles (arg_of f p) → (found || b) ≡ cond (settled f n) true found
settled_some f n p found b at is = rw (← at, ← is) (joined found b)
  where
    joined : (x y : Bool) → (x || y) ≡ cond y true x
    joined true true = refl
    joined true false = refl
    joined false true = refl
    joined false false = refl

pub settled_absent : (f : Form) (n : ℕ) (found : Bool) → None ≡ first_at n 0 f.args → found ≡ cond (settled f n) true found
settled_absent f n found at = rw (← at)
