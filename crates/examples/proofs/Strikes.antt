-- A strike makes a table shorter.
use Rattle.std.proofs.Common.{◌≡◌, ℕ, suc, ◌<◌, ◌≤◌, Bool, true, false, List, [], ◌∷◌, length, refl, ◌==◌, arith}
use borrow.Author.Tests.{clash}
use Rattle.calls.specs.Marked.{Marked}
use Rattle.calls.specs.Calls.{bears, without}

-- one entry before a rest that grew no longer
kept : {X : Type 0} (k : ℕ) (e : Marked X) (es : List (Marked X)) (b : Bool) → (e.mark == k) ≡ b → length (without k es) ≤ length es → length (without k (e ∷ es)) ≤ suc (length es)
kept k e es true h l = rw h (omega (arith, l))
kept k e es false h l = rw h (omega (arith, l))

no_longer : {X : Type 0} (k : ℕ) (es : List (Marked X)) → length (without k es) ≤ length es
no_longer k [] = omega arith
no_longer k (e ∷ es) = kept k e es (e.mark == k) refl (no_longer k es)

gone : {X : Type 0} (k : ℕ) (e : Marked X) (es : List (Marked X)) (b : Bool) → (e.mark == k) ≡ b → bears k (e ∷ es) ≡ true → (bears k es ≡ true → length (without k es) < length es) → length (without k (e ∷ es)) < suc (length es)
gone k e es true h t l = rw h (omega (arith, no_longer k es))
gone k e es false h t l = rw h (omega (arith, l (rw h at t)))

pub shorter : {X : Type 0} (k : ℕ) (es : List (Marked X)) → bears k es ≡ true → length (without k es) < length es
shorter k [] t = absurd (clash t)
shorter k (e ∷ es) t = gone k e es (e.mark == k) refl t (shorter k es)
