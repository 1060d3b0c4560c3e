-- Walks over the places of a list that offer what each element tells, and parts that follow one another.
use Rattle.std.proofs.Common.{◌≡◌, ℕ, suc, ◌+◌, ◌-◌, ◌<◌, ◌≤◌, Bool, true, false, List, [], ◌∷◌, ◌++◌, length, get_or, drop, sym, refl, ap, ◌∙◌, subst, add-zero, add-suc, suc-add, add-one, arith, length-drop, get_or-drop, drop-cons}
use Rattle.std.proofs.Common.{Break, Some, None, Option}
use Rattle.std.specs.Option.{is_some, option_eq}
use borrow.Author.Tests.{clash}
use Rattle.rules.specs.Rows.{same_if}
use Rattle.std.specs.Bool.{⊤}
use Rattle.std.specs.ControlFlow.{break_value}
use Rattle.std.specs.declared.ops.ControlFlow.{ControlFlow}
use Rattle.sinks.specs.Flow.{flow}
use Rattle.sinks.specs.declared.sink.Sink.{Ghosts}
use Rattle.std.specs.List.{range_with_len}
use Rattle.std.proofs.lemmas.List.FromFn.{length-range_with_len}
use Rattle.std.proofs.lemmas.List.{drop_all}
use Rattle.rules.specs.Order.{blocks}
use Rattle.rules.specs.declared.breach.Breach.{Breach}
use Rattle.sinks.specs.Alike.{between}

blocks_more : {X : Type 0} (h : ℕ → X → List Breach) (i : ℕ) (xs : List X) (d : X) → i < length xs → blocks h i (drop i xs) ≡ h i (get_or xs i d) ++ blocks h (i + 1) (drop (i + 1) xs)
unfolding blocks
blocks_more h i xs d l = rw (drop-cons xs i d, add-one)

blocks_all : {X : Type 0} (h : ℕ → X → List Breach) (i : ℕ) (xs : List X) → length xs ≤ i → blocks h i (drop i xs) ≡ []
unfolding blocks
blocks_all h i xs l = rw drop_all

-- places of which nothing is told
pub blocks_none : {X : Type 0} (h : ℕ → X → List Breach) (n : ℕ) (xs : List X) → ((i : ℕ) (x : X) → h i x ≡ []) → blocks h n xs ≡ []
unfolding blocks
blocks_none h n [] e = refl
blocks_none h n (x ∷ xs) e = rw (e n x) (blocks_none h (suc n) xs e)

-- what is told of places alone is what is told of the elements there
alike : {X Y : Type 0} (t : ℕ → List Breach) (h : ℕ → X → List Breach) (d : X) (n : ℕ) (ys : List Y) (xs : List X) → length ys ≡ length xs → ((i : ℕ) → t (n + i) ≡ h (n + i) (get_or xs i d)) → blocks (λ j _. t j) n ys ≡ blocks h n xs
unfolding blocks
alike t h d n [] [] e same = refl
alike t h d n [] (x ∷ xs) e same = absurd (omega arith)
alike t h d n (y ∷ ys) [] e same = absurd (omega arith)
alike t h d n (y ∷ ys) (x ∷ xs) e same =
    let here : t n ≡ h n x = subst (λ m. t m ≡ h m x) (add-zero n) (same 0) in
    rw (here, alike t h d (suc n) ys xs (omega arith) (λ i. subst (λ m. t m ≡ h m (get_or xs i d)) (add-suc n i ∙ sym (suc-add n i)) (same (suc i))))

pub between_is : {X : Type 0} (t : ℕ → List Breach) (h : ℕ → X → List Breach) (d : X) (n m : ℕ) (xs : List X) → m ≡ length xs → ((j : ℕ) → t j ≡ h j (get_or xs j d)) → between t n m ≡ blocks h n (drop n xs)
between_is t h d n m xs e same =
    alike t h d n (drop n (range_with_len 0 m)) (drop n xs) (simp (length-drop, length-range_with_len) (ap (λ k. k - n) e)) (λ i. rw get_or-drop (same (n + i)))

-- A walk from the place n on: from the state s it has come to the place i, and the state t.
pub record Walked {S X : Type 0} (k : Ghosts S) (h : ℕ → X → List Breach) (n : ℕ) (xs : List X) (s : S) (i : ℕ) (t : S) : Type 0 where
  pub rest : (u : S) → k.after t (blocks h i (drop i xs)) u → k.after s (blocks h n (drop n xs)) u

-- one turn more
pub walk_step : {S X : Type 0} {k : Ghosts S} {h : ℕ → X → List Breach} {n : ℕ} {xs : List X} {s t t' : S} {i : ℕ} (d : X) → i < length xs → Walked k h n xs s i t → k.after t (h i (get_or xs i d)) t' → Walked k h n xs s (i + 1) t'
walk_step {S} {X} {k} {h} {n} {xs} {s} {t} {t'} {i} d l w here = record { rest = λ u a. w.rest u (rw (blocks_more h i xs d l) (k.more t t' u _ _ here a)) }

-- the end of the list
pub walk_end : {S X : Type 0} {k : Ghosts S} {h : ℕ → X → List Breach} {n : ℕ} {xs : List X} {s t : S} {i : ℕ} → length xs ≤ i → Walked k h n xs s i t → k.after s (blocks h n (drop n xs)) t
walk_end {S} {X} {k} {h} {n} {xs} {s} {t} {i} l w = w.rest t (rw (blocks_all h i xs l) (k.none t))

-- a sink that breaks off is full
broken_off : (f : Bool) (b : ⊤) → Break b ≡ flow f → f ≡ true
broken_off true b e = refl
broken_off false b e = cc

-- a turn that breaks off: what would follow changes nothing
pub walk_stop : {S X : Type 0} {k : Ghosts S} {h : ℕ → X → List Breach} {n : ℕ} {xs : List X} {s t t' : S} {i : ℕ} {b : ⊤} (d : X) → i < length xs → Walked k h n xs s i t → k.after t (h i (get_or xs i d)) t' → Break b ≡ flow (k.full t') → k.after s (blocks h n (drop n xs)) t'
walk_stop {S} {X} {k} {h} {n} {xs} {s} {t} {t'} {i} {b} d l w here off = (walk_step d l w here).rest t' (k.stays t' _ (broken_off (k.full t') b off))

-- a part that breaks off, with what would follow
pub then_stop : {S : Type 0} (k : Ghosts S) (xs ys : List Breach) {s t : S} {b : ⊤} → k.after s xs t → Break b ≡ flow (k.full t) → k.after s (xs ++ ys) t
then_stop {S} k xs ys {s} {t} {b} a off = k.more s t t xs ys a (k.stays t ys (broken_off (k.full t) b off))

-- a part, and what follows
pub then_more : {S : Type 0} (k : Ghosts S) (xs ys : List Breach) {s t u : S} → k.after s xs t → k.after t ys u → k.after s (xs ++ ys) u
then_more {S} k xs ys {s} {t} {u} a b = k.more s t u xs ys a b

-- what is there is the same as what is there too
pub same_there : {X : Type 0} (same : X → X → Bool) (x y : Option X) → is_some x ≡ true → option_eq same x y ≡ same_if same x y
same_there same None y e = absurd (clash e)
same_there same (Some x) None e = refl
same_there same (Some x) (Some y) e = refl

pub absent : {X : Type 0} (x : Option X) → is_some x ≡ false → x ≡ None
absent None e = refl
absent (Some x) e = absurd (clash (sym e))

-- an answer that is a break, as `?` would tell it
pub breaks : {r : ControlFlow ⊤ ⊤} {b : Bool} (f : Bool) → r ≡ flow f → b ≡ is_some (break_value r) → b ≡ true → Break tt ≡ flow f
breaks true goes is e = refl
breaks false goes is e = absurd (clash (sym (rw goes at is) ∙ e))
