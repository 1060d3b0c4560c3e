-- Searches of a table by the places of its elements.
use Rattle.std.proofs.Common.{◌≡◌, ℕ, zero, suc, ◌+◌, ◌<◌, ◌≤◌, Bool, true, false, cond, ◌||◌, ◌++◌, List, [], ◌∷◌, map, length, get_or, Some, None, sym, refl, ap, zero-add, add-zero, filter, Option, ◌∙◌, arith}
use Rattle.std.specs.Bool.{MatchBool}
use Rattle.std.specs.Option.{MatchOption}
use Rattle.std.specs.List.{AllWithin, HoldsAt, FoldsTo, range_with_len}
use Rattle.std.proofs.lemmas.List.FromFn.{length-range_with_len, get_or-range_with_len}
use Rattle.std.proofs.lemmas.Iterator.{cases_from_any, YieldsList-from_range}
use Rattle.std.proofs.iter.Yields.{nat_range_steps}
use Rattle.std.specs.Iterator.{YieldsThen}
use Rattle.std.specs.Fn.{Called}
use Rattle.std.specs.declared.ops.Range.{Range}
use denote.Param.Members.{Mut}
use Rattle.form.specs.Model.{Arg, blank_arg}
use Rattle.rules.specs.Order.{some}
use Rattle.rules.specs.Rows.{is_number, first_at}

-- no element passes, or one does
some_false : {X : Type 0} (test : X → Bool) (xs : List X) (d : X) → ((k : ℕ) → k < length xs → test (get_or xs k d) ≡ false) → some test xs ≡ false
some_false test [] d fails = refl
some_false test (x ∷ xs) d fails = rw (fails 0 (omega arith)) (some_false test xs d (λ k l. fails (suc k) (omega arith)))

some_true : {X : Type 0} (test : X → Bool) (xs : List X) (d : X) (k : ℕ) → k < length xs → test (get_or xs k d) ≡ true → some test xs ≡ true
some_true test [] d k l e = absurd (omega arith)
some_true test (x ∷ xs) d zero l e = rw e refl
some_true test (x ∷ xs) d (suc k) l e = go (test x) (some_true test xs d k (omega arith) e) where
  go : (b : Bool) → some test xs ≡ true → cond b true (some test xs) ≡ true
  go true h = refl
  go false h = h

-- what `any` over the places of a table says
any_place : {X : Type 0} (test : X → Bool) (xs : List X) (d : X) (n : ℕ) (r : Bool) → n ≡ length xs
    → MatchBool r ((k : ℕ) × (k < length (range_with_len 0 n)) × HoldsAt (λ j. test (get_or xs j d) ≡ true) (range_with_len 0 n) k) (AllWithin (λ j. test (get_or xs j d) ≡ false) (range_with_len 0 n) 0 (length (range_with_len 0 n)))
    → r ≡ some test xs
any_place test xs d n true e m =
    let lt : m.0 < n = rw length-range_with_len at m.1 in
    sym (some_true test xs d m.0 (omega arith) (rw (get_or-range_with_len 0 n m.0 0 lt, zero-add m.0) at (m.2 0)))
any_place test xs d n false e m =
    sym (some_false test xs d (λ k l.
    let lt : k < n = omega arith in
    rw (get_or-range_with_len 0 n k 0 lt, zero-add k) at (m k 0 (omega arith) (rw length-range_with_len lt))))

pub any_is : {X F : Type 0} {g : Mut F (ℕ × Unit {0}) Bool} (test : X → Bool) (xs : List X) (d : X) (n : ℕ) (u : Range ℕ) (f : F) (r : Bool) → n ≡ length xs
    → (ys : List ℕ) × (o : Option ℕ) × (j : F) × YieldsThen nat_range_steps (record { start = 0; end = n }) ys o u × FoldsTo (λ p x q. Called g p (x, tt) false q) f ys j × MatchOption o (r ≡ false) (λ x. (r ≡ true) × ((h : F) × Called g j (x, tt) true h))
    → ((x : ℕ) (q : F) → Called g f (x, tt) true q → test (get_or xs x d) ≡ true) → ((x : ℕ) (q : F) → Called g f (x, tt) false q → (q ≡ f) × (test (get_or xs x d) ≡ false))
    → r ≡ some test xs
any_is test xs d n u f r e ran passes fails =
    any_place test xs d n r e (cases_from_any u f r (λ j. test (get_or xs j d) ≡ true) (λ j. test (get_or xs j d) ≡ false) ran (YieldsList-from_range 0 n n refl (omega arith)) passes fails)

-- a test of what h makes of each element
pub some_map : {X Y : Type 0} (test : Y → Bool) (h : X → Y) (xs : List X) → some test (map h xs) ≡ some (λ x. test (h x)) xs
some_map test h [] = refl
some_map test h (x ∷ xs) = ap (cond (test (h x)) true) (some_map test h xs)

-- the elements at the places of a table are its elements
filter_at : {X : Type 0} (test : X → Bool) (at : ℕ → X) (xs : List X) (d : X) (a : ℕ) → ((k : ℕ) → at (a + k) ≡ get_or xs k d) → length (filter (λ j. test (at j)) (range_with_len a (length xs))) ≡ length (filter test xs)
filter_at test at [] d a is = refl
filter_at test at (x ∷ xs) d a is =
    let here : at a ≡ x = ap at (sym (add-zero a)) ∙ is 0 in
    let rest = filter_at test at xs d (a + 1) (λ k. ap at (omega arith) ∙ is (suc k)) in
    rw here (go (test x) rest)
  where
    go : (b : Bool) → length (filter (λ j. test (at j)) (range_with_len (a + 1) (length xs))) ≡ length (filter test xs)
        → length (cond b (a ∷ filter (λ j. test (at j)) (range_with_len (a + 1) (length xs))) (filter (λ j. test (at j)) (range_with_len (a + 1) (length xs)))) ≡ length (cond b (x ∷ filter test xs) (filter test xs))
    go true e = ap suc e
    go false e = e

-- how many pass, among the places of a table
pub filter_places : {X : Type 0} (test : X → Bool) (xs : List X) (d : X) (n : ℕ) → n ≡ length xs → length (filter (λ j. test (get_or xs j d)) (range_with_len 0 n)) ≡ length (filter test xs)
filter_places test xs d n e = rw e (filter_at test (λ j. get_or xs j d) xs d 0 (λ k. ap (λ m. get_or xs m d) (zero-add k)))

-- the first place that passes
first_none : (n i : ℕ) (xs : List Arg) → ((k : ℕ) → k < length xs → is_number n (get_or xs k blank_arg).index ≡ false) → first_at n i xs ≡ None
first_none n i [] fails = refl
first_none n i (x ∷ xs) fails = rw (fails 0 (omega arith)) (first_none n (suc i) xs (λ k l. fails (suc k) (omega arith)))

first_some : (n i p : ℕ) (xs : List Arg) → p < length xs → is_number n (get_or xs p blank_arg).index ≡ true → ((k : ℕ) → k < p → is_number n (get_or xs k blank_arg).index ≡ false) → first_at n i xs ≡ Some (i + p)
first_some n i p [] l e fails = absurd (omega arith)
first_some n i zero (x ∷ xs) l e fails = rw e (ap (λ m. Some m) (sym (add-zero i)))
first_some n i (suc p) (x ∷ xs) l e fails = rw (fails 0 (omega arith)) (first_some n (suc i) p xs (omega arith) e (λ k m. fails (suc k) (omega arith)) ∙ ap (λ m. Some m) (omega arith))

-- what `find` over the places of a table says
pub first_place : (n m : ℕ) (xs : List Arg) (r : Option ℕ) → m ≡ length xs
    → MatchOption r ((k : ℕ) → 0 ≤ k → k < m → is_number n (get_or xs k blank_arg).index ≡ false) (λ p. (0 ≤ p) × (p < m) × (is_number n (get_or xs p blank_arg).index ≡ true) × ((k : ℕ) → 0 ≤ k → k < p → is_number n (get_or xs k blank_arg).index ≡ false))
    → r ≡ first_at n 0 xs
first_place n m xs None e found = sym (first_none n 0 xs (λ k l. found k (omega arith) (omega arith)))
first_place n m xs (Some p) e found = sym (first_some n 0 p xs (omega (arith, found.1)) found.2 (λ k l. found.3 k (omega arith) l) ∙ ap (λ q. Some q) (zero-add p))

pub some_append : {X : Type 0} (test : X → Bool) (xs ys : List X) → some test (xs ++ ys) ≡ (some test xs || some test ys)
some_append test [] ys = refl
some_append test (x ∷ xs) ys = go (test x) (some_append test xs ys) where
  go : (b : Bool) → some test (xs ++ ys) ≡ (some test xs || some test ys) → cond b true (some test (xs ++ ys)) ≡ (cond b true (some test xs) || some test ys)
  go true e = refl
  go false e = e
