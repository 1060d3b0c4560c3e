-- A call other than build leaves an open book open.
use Rattle.std.proofs.Common.{◌≡◌, ℕ, Bool, true, false, cond, List, sym, refl, ap, ◌∙◌, arith}
use Rattle.std.specs.Borrow.{Bor}
use Rattle.calls.specs.Marked.{MarkedForm}
use Rattle.calls.specs.Calls.{RecordOf}
use Rattle.calls.specs.Runs.{CallOf, enter, alter, unmade, strike, attach, set, build, reopen, report, first, find, open_answer, open_after, built_after, World, after}
use Rattle.calls.specs.Called.{called, can_make}
use Rattle.calls.specs.declared.call.Call.{Call}
use Rattle.calls.specs.declared.call.Call.TheVariants.{Enter, Alter, Unmade, Strike, Attach, Set, Build, Reopen, Report, First, Find}
use Rattle.replay.specs.Said.{changed_answer}

differs : (c d : CallOf) (b : Bool) → (c ≡ build → ⊥) → (d ≡ build → ⊥) → cond b c d ≡ build → ⊥
differs c d true h k e = h e
differs c d false h k e = k e

unmade_not : unmade ≡ build → ⊥
unmade_not e = let z : ◌≡◌ {A = ℕ} 0 1 = cc in omega arith

enter_not : (r : RecordOf) → enter r ≡ build → ⊥
enter_not r e = let z : ◌≡◌ {A = ℕ} 0 1 = cc in omega arith

alter_not : (k : ℕ) (r : RecordOf) → alter k r ≡ build → ⊥
alter_not k r e = let z : ◌≡◌ {A = ℕ} 0 1 = cc in omega arith

pub unbuilt : (k : Call (Bor (List ℕ))) → (k ≡ Build → ⊥) → called k ≡ build → ⊥
unbuilt (Enter r) h e = differs _ _ (can_make r) (enter_not _) unmade_not e
unbuilt (Alter n r) h e = differs _ _ (can_make r) (alter_not n _) unmade_not e
unbuilt Unmade h e = unmade_not e
unbuilt (Strike n) h e = let z : ◌≡◌ {A = ℕ} 0 1 = cc in omega arith
unbuilt (Attach n l x) h e = let z : ◌≡◌ {A = ℕ} 0 1 = cc in omega arith
unbuilt (Set s) h e = let z : ◌≡◌ {A = ℕ} 0 1 = cc in omega arith
unbuilt Build h e = h refl
unbuilt Reopen h e = let z : ◌≡◌ {A = ℕ} 0 1 = cc in omega arith
unbuilt (Report room) h e = let z : ◌≡◌ {A = ℕ} 0 1 = cc in omega arith
unbuilt First h e = let z : ◌≡◌ {A = ℕ} 0 1 = cc in omega arith
unbuilt (Find s) h e = let z : ◌≡◌ {A = ℕ} 0 1 = cc in omega arith

pub changed_is : (m : MarkedForm) (c : CallOf) → (c ≡ build → ⊥) → changed_answer m c ≡ open_answer m c
changed_is m (enter r) h = refl
changed_is m (alter k r) h = refl
changed_is m unmade h = refl
changed_is m (strike k) h = refl
changed_is m (attach k l x) h = refl
changed_is m (set s) h = refl
changed_is m build h = absurd (h refl)
changed_is m reopen h = refl
changed_is m (report room) h = refl
changed_is m first h = refl
changed_is m (find k) h = refl

still_open : (c : CallOf) → (c ≡ build → ⊥) → built_after false c ≡ false
still_open (enter r) h = refl
still_open (alter k r) h = refl
still_open unmade h = refl
still_open (strike k) h = refl
still_open (attach k l x) h = refl
still_open (set s) h = refl
still_open build h = absurd (h refl)
still_open reopen h = refl
still_open (report room) h = refl
still_open first h = refl
still_open (find k) h = refl

open_book : Bool → MarkedForm → World
open_book b m = record { built = b; book = m }

pub after_open : (m n : MarkedForm) (c : CallOf) → (c ≡ build → ⊥) → n ≡ open_after m c → record { built = false; book = n } ≡ after (record { built = false; book = m }) c
unfolding open_book
after_open m n c h e = ap (open_book false) e ∙ ap (λ b. open_book b (open_after m c)) (sym (still_open c h))
