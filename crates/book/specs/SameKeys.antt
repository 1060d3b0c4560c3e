-- Whether two rows of keys are the same, as a test: a book's invariant states it so.
use Rattle.std.specs.Prelude.{◌≡◌, Bool, true, false, ◌&&◌, List, [], ◌∷◌, ◌==◌, refl}
use Rattle.std.proofs.Common.{sym, ap, ◌∙◌}
use borrow.Author.Tests.{eqb-true, eq-eqb, clash}
use Rattle.std.proofs.lemmas.Bool.{and_parts}
use Rattle.form.specs.SameKey.{same_key_is, same_key_self}
use Rattle.form.specs.Keys.{Key, same_key}

-- equal keys of the same places, in the same order
unfoldable pub same_keys : List Key → List Key → Bool
same_keys [] [] = true
same_keys [] (k ∷ ks) = false
same_keys (j ∷ js) [] = false
same_keys (j ∷ js) (k ∷ ks) = same_key j.name k.name && (j.place == k.place && same_keys js ks)

pub keys_same : (js ks : List Key) → same_keys js ks ≡ true → js ≡ ks
unfolding same_keys
keys_same [] [] e = refl
keys_same [] (k ∷ ks) e = absurd (clash e)
keys_same (j ∷ js) [] e = absurd (clash e)
keys_same (j ∷ js) (k ∷ ks) e =
    let p = and_parts _ _ e in
    let q = and_parts _ _ p.1 in
    let name = same_key_is j.name k.name p.0 in
    let place = eqb-true j.place k.place q.0 in
    let first : j ≡ k = ap (λ n. record { name = n; place = j.place }) name ∙ ap (λ p. record { name = k.name; place = p }) place in
    let rest = keys_same js ks q.1 in
    cc

pub keys_themselves : (js ks : List Key) → js ≡ ks → same_keys js ks ≡ true
unfolding same_keys
keys_themselves js ks e = ap (same_keys js) (sym e) ∙ go js
  where
    go : (js : List Key) → same_keys js js ≡ true
    go [] = refl
    go (j ∷ js) = rw (same_key_self j.name, eq-eqb j.place j.place refl) (go js)
