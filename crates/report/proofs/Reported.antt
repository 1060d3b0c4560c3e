-- From what the sinks hold to what report and first answer.
use Rattle.std.proofs.Common.{◌≡◌, ℕ, ◌+◌, ◌^◌, ◌<◌, ◌≤◌, List, [], ◌∷◌, ◌++◌, length, take, drop, set, Some, None, Ok, Err, Result, sym, refl, ap, ◌∙◌, subst, append_assoc, arith, length-append, le-ltb, lt-ltb}
use lib.Seq.{take-append_seam}
use Rattle.form.specs.Model.{Form}
use Rattle.rules.specs.declared.breach.Breach.{Breach}
use Rattle.rules.specs.Order.{Member}
use Rattle.rules.specs.Rank.{Lists}
use Rattle.rules.specs.Report.{breaches}
use Rattle.rules.proofs.Lists.{report_lists}
use Rattle.rules.proofs.Tidied.{empty_means_tidy}
use Rattle.rules.specs.Tidy.{Tidy}
use Rattle.sinks.specs.Sinks.{fold, bump, keep, put, counted_exactly}
use Rattle.report.specs.Answers.{report_answer, reported, first_of}
use Rattle.report.specs.declared.short.ListShort.{ListShort}

pub count_is : (bs : List Breach) → length bs < 2 ^ 64 → fold bump 0 bs ≡ length bs
count_is bs h = counted_exactly 0 bs (omega arith) ∙ omega arith

set_seam : (pre : List Breach) (x b : Breach) (rest : List Breach) → set (pre ++ (x ∷ rest)) (length pre) b ≡ pre ++ (b ∷ rest)
set_seam [] x b rest = refl
set_seam (p ∷ pre) x b rest = ap (λ l. p ∷ l) (set_seam pre x b rest)

put_next : (pre : List Breach) (x b : Breach) (rest : List Breach) (n : ℕ) → n ≡ length pre → put (pre ++ (x ∷ rest), n) b ≡ ((pre ++ (b ∷ [])) ++ rest, n + 1)
put_next pre x b rest n e =
    let inside : n < length (pre ++ (x ∷ rest)) = simp length-append (omega arith) in
    let wrote : set (pre ++ (x ∷ rest)) n b ≡ (pre ++ (b ∷ [])) ++ rest = rw (e, append_assoc) (set_seam pre x b rest) in
    rw (lt-ltb n (length (pre ++ (x ∷ rest))) inside) (ap (λ (l : List Breach). (l, n + 1)) wrote)

filled : (pre rest bs : List Breach) (n : ℕ) → n ≡ length pre → length bs ≤ length rest → (fold put (pre ++ rest, n) bs).0 ≡ pre ++ (bs ++ drop (length bs) rest)
filled pre rest [] n e h = refl
filled pre [] (b ∷ bs) n e h = absurd (omega arith)
filled pre (x ∷ rest) (b ∷ bs) n e h =
    let next : n + 1 ≡ length (pre ++ (b ∷ [])) = simp length-append (omega arith) in
    ap (λ (p : List Breach × ℕ). (fold put p bs).0) (put_next pre x b rest n e)
    ∙ filled (pre ++ (b ∷ [])) rest bs (n + 1) next (omega arith)
    ∙ append_assoc pre (b ∷ []) (bs ++ drop (length bs) rest)

pub fill_is : (room bs : List Breach) → length bs ≤ length room → (fold put (room, 0) bs).0 ≡ bs ++ drop (length bs) room
fill_is room bs h = filled [] room bs 0 refl h

pub first_is : (bs : List Breach) → fold keep None bs ≡ first_of bs
first_is [] = refl
first_is (b ∷ bs) = stays b bs
  where
    stays : (a : Breach) (xs : List Breach) → fold keep (Some a) xs ≡ Some a
    stays a [] = refl
    stays a (x ∷ xs) = stays a xs

nothing_in : (bs : List Breach) → length bs ≡ 0 → bs ≡ []
nothing_in [] e = refl
nothing_in (b ∷ bs) e = absurd (omega arith)

-- the four clauses of report, where the list is shorter
module _ (f : Form) (room : List Breach) (n : ℕ) (is : n ≡ length (breaches f)) where
  pub short_answer : length room < n → Err (record { needed = n }) ≡ report_answer (breaches f) (length room)
  short_answer h = let lt : length room < length (breaches f) = omega arith in rw (lt-ltb (length room) (length (breaches f)) lt, is)

  pub short_list : length room < n → room ≡ reported (breaches f) room
  short_list h = let lt : length room < length (breaches f) = omega arith in rw (lt-ltb (length room) (length (breaches f)) lt)

  -- and where it is not
  pub long_answer : n ≤ length room → Ok n ≡ report_answer (breaches f) (length room)
  long_answer h = let le : length (breaches f) ≤ length room = omega arith in rw (le-ltb (length room) (length (breaches f)) le, is)

  pub long_list : (after : List Breach) → n ≤ length room → after ≡ (fold put (room, 0) (breaches f)).0 → after ≡ reported (breaches f) room
  long_list after h e =
      let le : length (breaches f) ≤ length room = omega arith in
      e ∙ rw (le-ltb (length room) (length (breaches f)) le) (fill_is room (breaches f) le)

  pub long_lists : (after : List Breach) (k : ℕ) → n ≤ length room → after ≡ (fold put (room, 0) (breaches f)).0 → ◌≡◌ {A = Result ℕ ListShort} (Ok n) (Ok k) → Lists f (take k after)
  long_lists after k h e o =
      let le : length (breaches f) ≤ length room = omega arith in
      let q : k ≡ length (breaches f) = let m : n ≡ k = cc in sym m ∙ is in
      let t : take k after ≡ breaches f = rw (q, e, fill_is room (breaches f) le) (take-append_seam (breaches f) _) in
      rw t (report_lists f)

  pub long_tidy : ◌≡◌ {A = Result ℕ ListShort} (Ok n) (Ok 0) → Tidy f
  long_tidy o =
      let m : n ≡ 0 = cc in
      let none = nothing_in (breaches f) (omega arith) in
      empty_means_tidy f (λ b k. subst (Member b) none ((report_lists f).complete b k))

-- a list that was made for the breaches, filled
pub all_is : (f : Form) (room after rest : List Breach) (n len : ℕ) → n ≡ length (breaches f) → n ≤ length room → len ≡ n → after ≡ (fold put (room, 0) (breaches f)).0 → take len (after ++ rest) ≡ breaches f
all_is f room after rest n len is fits e filled =
    let le : length (breaches f) ≤ length room = omega arith in
    let front : after ++ rest ≡ breaches f ++ (drop (length (breaches f)) room ++ rest)
    = ap (λ l. l ++ rest) (filled ∙ fill_is room (breaches f) le) ∙ append_assoc (breaches f) _ rest in
    ap (λ k. take k (after ++ rest)) (e ∙ is) ∙ ap (take (length (breaches f))) front ∙ take-append_seam (breaches f) _

pub all_lists : (f : Form) (bs : List Breach) → bs ≡ breaches f → Lists f bs
all_lists f bs e = rw e (report_lists f)
