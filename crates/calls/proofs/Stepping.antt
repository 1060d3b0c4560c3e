-- The book before each call, reached by stepping: it is the one that the accepted calls make.
use Rattle.std.proofs.Common.{◌≡◌, ℕ, zero, suc, Bool, true, false, cond, List, [], ◌∷◌, sym, refl, ap, ◌∙◌}
use Rattle.form.specs.Model.{Form}
use Rattle.rules.specs.Order.{Stands}
use Rattle.rules.proofs.Spots.{nothing}
use Rattle.calls.specs.Runs.{CallOf, Answer, World, start, after, answers}
use Rattle.calls.specs.Law.{accepted, accepted_before, made_from, held}
use Rattle.calls.proofs.Outcomes.{made, Outcome, entered, altered, struck, attached, settled, kept, outcome}

-- the book before the call at place i
abbrev pub stepped : World → List CallOf → ℕ → World
stepped w cs zero = w
stepped w [] (suc i) = w
stepped w (c ∷ cs) (suc i) = stepped (after w c) cs i

pub stepped_next : (w : World) (cs : List CallOf) (i : ℕ) (c : CallOf) → Stands cs i c → stepped w cs (suc i) ≡ after (stepped w cs i) c
stepped_next w [] i c s = nothing c s
stepped_next w (d ∷ cs) zero c s = let e : d ≡ c = cc in ap (after w) e
stepped_next w (d ∷ cs) (suc i) c s = stepped_next (after w d) cs i c s

-- A call that is not accepted changes nothing, and an accepted one makes its change.
changed_if : {w v : World} {c : CallOf} {a : Answer} → Outcome w c v a → v ≡ cond (accepted a) (made w c) w
changed_if (entered r) = refl
changed_if (altered k r) = refl
changed_if (struck k) = refl
changed_if (attached k l x) = refl
changed_if (settled s) = refl
changed_if (kept c b a g e) = e

made_next : (w v : World) (c : CallOf) (cs : List CallOf) (t : Bool) → v ≡ cond t (made w c) w → made_from w (cond t (c ∷ cs) cs) ≡ made_from v cs
made_next w v c cs true e = ap (λ (u : World). made_from u cs) (sym e)
made_next w v c cs false e = ap (λ (u : World). made_from u cs) (sym e)

made_stepped : (look : Form → Form) (w : World) (cs : List CallOf) (i : ℕ) → made_from w (accepted_before i cs (answers look w cs)) ≡ stepped w cs i
unfolding answers
made_stepped look w cs zero = refl
made_stepped look w [] (suc i) = refl
made_stepped look w (c ∷ cs) (suc i) = made_next w (after w c) c _ _ (changed_if (outcome look w c)) ∙ made_stepped look (after w c) cs i

pub held_stepped : (look : Form → Form) (cs : List CallOf) (i : ℕ) → held cs (answers look start cs) i ≡ stepped start cs i
held_stepped look = made_stepped look start
