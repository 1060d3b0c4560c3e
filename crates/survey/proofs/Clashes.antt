-- Flags of owners, and those that clash.
use Rattle.std.proofs.Common.{◌≡◌, ℕ, suc, ◌+◌, ◌<◌, ◌≤◌, Bool, true, false, ◌&&◌, List, [], map, length, get_or, drop, Some, None, Option, sym, refl, subst, add-one, arith}
use lib.ListN.{length-map}
use Rattle.std.specs.Option.{option_map}
use Rattle.std.proofs.lemmas.List.{get_or-map, get_or_past}
use Rattle.rules.specs.declared.rule.Rule.{Rule}
use Rattle.rules.specs.declared.breach.Entry.{Entry}
use Rattle.rules.specs.declared.breach.Breach.{Breach}
use Rattle.rules.specs.Order.{blocks, when}
use Rattle.rules.specs.Told.{of_flags}
use Rattle.rules.specs.Words.{Owner}
use Rattle.rules.specs.Rows.{same_if, flags, differ}
use Rattle.rules.specs.Report.{clash_report}
use Rattle.sinks.specs.Alike.{between}
use Rattle.sinks.proofs.Walks.{blocks_none, between_is}

-- what stands for a flag is the same where the flags are
pub same_mapped : {X Y : Type 0} (is : X → X → Bool) (same : Y → Y → Bool) (plain : X → Y) → ((x y : X) → is x y ≡ same (plain x) (plain y))
    → (x y : Option X) → same_if is x y ≡ same_if same (option_map plain x) (option_map plain y)
same_mapped is same plain e None y = refl
same_mapped is same plain e (Some x) None = refl
same_mapped is same plain e (Some x) (Some y) = e x y

pub same_absent : {X Y : Type 0} (is : X → X → Bool) (same : Y → Y → Bool) (plain : X → Y) (x : Option X) → same_if is x None ≡ same_if same (option_map plain x) None
same_absent is same plain None = refl
same_absent is same plain (Some x) = refl

-- flag k, where k is above 0
pub flag_alias : {X : Type 0} (own : Option X) (xs : List X) (k n : ℕ) (b : X) → k ≡ suc n → k ≤ length xs → Some (get_or xs n b) ≡ get_or (flags own xs) k None
flag_alias own xs k n b e l = rw e (sym (get_or-map (λ x. Some x) xs n b None (omega arith)))

pub flag_past : {X : Type 0} (own : Option X) (xs : List X) (k n : ℕ) → k ≡ suc n → length xs < k → None ≡ get_or (flags own xs) k None
flag_past own xs k n e l = rw e (sym (get_or_past (map (λ x. Some x) xs) n None (rw length-map (omega arith))))

-- What one flag tells of the flags of another owner.
and_yes : (b d : Bool) → d ≡ true → (b && d) ≡ b
and_yes true d e = e
and_yes false d e = refl

and_no : (b d : Bool) → d ≡ false → (b && d) ≡ false
and_no true d e = e
and_no false d e = refl

-- where the owners do not differ, nothing
pub clash_none : {X : Type 0} (same : X → X → Bool) (r : Rule) (o : Owner) (k : ℕ) (x : Option X) (w : Owner) (ys : List (Option X)) → differ o w ≡ false → clash_report same r o k x w ys ≡ []
clash_none same r o k x w ys e = blocks_none _ 0 ys (λ m y. rw (and_no (same_if same x y) (differ o w) e))

-- where they do, the twins among them
pub clash_twins : {X : Type 0} (same : X → X → Bool) (r : Rule) (o : Owner) (k : ℕ) (x y : Option X) (w : Owner) (ys : List (Option X)) (n : ℕ) (e : Entry)
    → differ o w ≡ true → n ≡ length ys → y ≡ x → e ≡ o.entry
    → between (λ m. when (same_if same y (get_or ys m None)) (of_flags r e k w.entry m)) 0 n ≡ clash_report same r o k x w ys
clash_twins same r o k x y w ys n e d len is at =
    between_is (λ m. when (same_if same y (get_or ys m None)) (of_flags r e k w.entry m)) (λ m z. when (same_if same x z && differ o w) (of_flags r o.entry k w.entry m)) None 0 n ys len
    (λ m. rw (and_yes (same_if same x (get_or ys m None)) (differ o w) d, is, at))

-- what was offered of two owners, in other words for each
pub of_both : {S : Type 0} (after : S → List Breach → S → Type 0) (s t : S) (told : Owner → Owner → List Breach) (o o' w w' : Owner) → o ≡ o' → w ≡ w' → after s (told o w) t → after s (told o' w') t
of_both after s t told o o' w w' e d a = subst (λ v. after s (told o' v) t) d (subst (λ v. after s (told v w) t) e a)

-- a walk that starts after a place
pub from_next : {S X : Type 0} (after : S → List Breach → S → Type 0) (s t : S) (h : ℕ → X → List Breach) (i : ℕ) (xs : List X) → after s (blocks h (i + 1) (drop (i + 1) xs)) t → after s (blocks h (suc i) (drop (suc i) xs)) t
from_next after s t h i xs a = subst (λ n. after s (blocks h n (drop n xs)) t) (add-one i) a
