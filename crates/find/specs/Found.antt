-- What it is to find a key.
use Rattle.std.specs.Prelude.{◌≡◌, ℕ, ◌<◌, List, Some, Ok, Err, Result, ◌≢◌}
use Rattle.std.specs.List.{slice_get}
use Rattle.form.specs.Keys.{KeyName, Key}
use Rattle.form.specs.declared.refusal.Refusal.{Refusal}
use Rattle.form.specs.declared.refusal.Refusal.TheVariants.{NoSuchKey}

-- the key e stands at place i
abbrev pub KeyAt : List Key → ℕ → Key → Type 0
KeyAt ks i e = slice_get ks i ≡ Some e

-- The answer p is the place of the first key that is k: it stands in the list, and none before it is k.
-- A refusal comes only where no key is k.
abbrev pub Found : KeyName → List Key → Result ℕ Refusal → Type 0
Found k ks (Ok p) = (i : ℕ) × (e : Key) × KeyAt ks i e × (e.name ≡ k) × (e.place ≡ p) × ((j : ℕ) (d : Key) → j < i → KeyAt ks j d → d.name ≢ k)
Found k ks (Err e) = (e ≡ NoSuchKey) × ((i : ℕ) (d : Key) → KeyAt ks i d → d.name ≢ k)
