-- What the sinks do with what they are offered.
use Rattle.std.specs.Prelude.{◌≡◌, ℕ, ◌+◌, ◌-◌, ◌^◌, ◌<◌, ◌≤◌, true, cond, List, [], ◌∷◌, ◌++◌, length, is_some, Some, None, Option, nat_lt, slice_set, refl}
use Rattle.std.proofs.Common.{sym, ap, ◌∙◌, add-zero, arith}
use borrow.Author.Tests.{lt-ltb, le-ltb, clash}
use Rattle.rules.specs.declared.breach.Breach.{Breach}

-- one step for each breach
abbrev pub fold : {S : Type 0} → (S → Breach → S) → S → List Breach → S
fold f s [] = s
fold f s (b ∷ bs) = fold f (f s b) bs

pub fold_none : {S : Type 0} (f : S → Breach → S) (s : S) → s ≡ fold f s []
fold_none f s = refl

fold_append : {S : Type 0} (f : S → Breach → S) (s : S) (xs ys : List Breach) → fold f s (xs ++ ys) ≡ fold f (fold f s xs) ys
fold_append f s [] ys = refl
fold_append f s (x ∷ xs) ys = fold_append f (f s x) xs ys

pub fold_more : {S : Type 0} (f : S → Breach → S) (s t u : S) (xs ys : List Breach) → t ≡ fold f s xs → u ≡ fold f t ys → u ≡ fold f s (xs ++ ys)
fold_more f s t u xs ys a b = b ∙ ap (λ v. fold f v ys) a ∙ sym (fold_append f s xs ys)

-- one breach more, up to the largest number of 64 bits
abbrev pub bump : ℕ → Breach → ℕ
bump n b = cond (nat_lt n (2 ^ 64 - 1)) (n + 1) n

-- so that fewer than 2 ^ 64 are counted exactly
pub counted_exactly : (n : ℕ) (bs : List Breach) → n + length bs < 2 ^ 64 → fold bump n bs ≡ n + length bs
counted_exactly n [] few = sym (add-zero n)
counted_exactly n (b ∷ bs) few =
    let below : n < 2 ^ 64 - 1 = omega arith in
    ap (λ m. fold bump m bs) (rw (lt-ltb n (2 ^ 64 - 1) below)) ∙ counted_exactly (n + 1) bs (omega arith) ∙ omega arith

-- the first is kept
abbrev pub keep : Option Breach → Breach → Option Breach
keep None b = Some b
keep (Some a) b = Some a

pub kept_stays : (o : Option Breach) (xs : List Breach) → is_some o ≡ true → o ≡ fold keep o xs
kept_stays None xs f = absurd (clash f)
kept_stays (Some a) [] f = refl
kept_stays (Some a) (x ∷ xs) f = kept_stays (Some a) xs f

-- the next place is written, while there is one
abbrev pub put : List Breach × ℕ → Breach → List Breach × ℕ
put p b = cond (nat_lt p.1 (length p.0)) (slice_set p.0 p.1 b, p.1 + 1) p

pub put_stays : (room : List Breach) (n : ℕ) (xs : List Breach) → length room ≤ n → (room, n) ≡ fold put (room, n) xs
put_stays room n [] f = refl
put_stays room n (x ∷ xs) f = put_stays room n xs f ∙ ap (λ p. fold put p xs) (sym (rw (le-ltb n (length room) f)))
