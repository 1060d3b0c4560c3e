-- One call more of a run, and its end.
use Rattle.std.proofs.Common.{◌≡◌, ℕ, ◌+◌, ◌<◌, ◌≤◌, List, [], ◌∷◌, ◌++◌, map, length, get_or, drop, IfOk, Ok, Result, sym, refl, ap, ◌∙◌, subst, append_assoc, append-nil}
use Rattle.std.proofs.lemmas.List.{map_push, at_drop_more, at_drop_all}
use Rattle.std.specs.Borrow.{Bor}
use Rattle.form.specs.Model.{Form}
use Rattle.calls.specs.Runs.{World, answer, after, answers}
use Rattle.calls.specs.Runs as runs
use Rattle.calls.specs.Called.{called}
use Rattle.calls.specs.declared.call.Call.{Call as CallOn}
use Rattle.replay.specs.Said.{said}
use Rattle.replay.specs.declared.answer.Answer.{Answer}

abbrev Call : Type 0
Call = CallOn (Bor (List ℕ))

next_answer : (look : Form → Form) (w : World) (k : Call) (ks : List Call) → answers look w (map called (k ∷ ks)) ≡ answer look w (called k) ∷ answers look (after w (called k)) (map called ks)
unfolding answers
next_answer look w k ks = refl

no_answer : (look : Form → Form) (w : World) → answers look w (map called []) ≡ []
unfolding answers
no_answer look w = refl

pub run_more : {E : Type 0} → (look : Form → Form) (w v : World) (cs : List Call) (i : ℕ) (d : Call) (out more : List Answer) (all : List runs.Answer) (a : Answer) (r : Result Answer E)
    → i < length cs → IfOk r (λ x. said x ≡ answer look w (called (get_or cs i d))) → r ≡ Ok a → v ≡ after w (called (get_or cs i d)) → more ≡ out ++ (a ∷ [])
    → map said out ++ answers look w (map called (drop i cs)) ≡ all → map said more ++ answers look v (map called (drop (i + 1) cs)) ≡ all
run_more look w v cs i d out more all a r lt told ok later pushed inv =
    let k = get_or cs i d in
    let rest = map called (drop (i + 1) cs) in
    let is : said a ≡ answer look w (called k) = subst (λ x. IfOk x (λ y. said y ≡ answer look w (called k))) ok told in
    let front : map said more ≡ map said out ++ (said a ∷ []) = ap (map said) pushed ∙ map_push said out a in
    let turn : answers look w (map called (drop i cs)) ≡ said a ∷ answers look v rest
    = at_drop_more (λ ks. answers look w (map called ks)) cs i d lt ∙ next_answer look w k (drop (i + 1) cs) ∙ ap (λ x. x ∷ answers look (after w (called k)) rest) (sym is) ∙ ap (λ u. said a ∷ answers look u rest) (sym later) in
    ap (λ l. l ++ answers look v rest) front ∙ append_assoc (map said out) (said a ∷ []) (answers look v rest) ∙ ap (λ l. map said out ++ l) (sym turn) ∙ inv

pub run_all : (look : Form → Form) (w : World) (cs : List Call) (i : ℕ) (out : List Answer) (all : List runs.Answer) → length cs ≤ i → map said out ++ answers look w (map called (drop i cs)) ≡ all → map said out ≡ all
run_all look w cs i out all le inv =
    sym (ap (λ l. map said out ++ l) (at_drop_all (λ ks. answers look w (map called ks)) cs i le ∙ no_answer look w) ∙ append-nil (map said out)) ∙ inv
