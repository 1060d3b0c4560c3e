-- Every answer is the defined one, marks rise, and accepted reports list the breaches: by induction on the run, from any book.
use Rattle.std.proofs.Common.{◌≡◌, ℕ, zero, suc, ◌+◌, ◌≤◌, Bool, true, false, cond, ltb, ◌⊎◌, List, [], ◌∷◌, length, Some, None, Option, sym, refl, ap, ◌∙◌, subst, inl, inr, arith}
use Rattle.form.specs.Model.{Form}
use Rattle.form.specs.Lists.{list_numbered}
use Rattle.form.specs.declared.lists.ItemList.{ItemList}
use Rattle.rules.specs.declared.breach.Breach.{Breach}
use Rattle.rules.specs.Order.{Stands}
use Rattle.rules.specs.Rank.{Lists}
use Rattle.rules.specs.Report.{breaches}
use Rattle.rules.proofs.Spots.{nothing}
use Rattle.rules.proofs.Lists.{report_lists}
use Rattle.rules.proofs.Tidied.{empty_means_tidy}
use Rattle.calls.specs.Marked.{MarkedForm, ItemOf, form_of}
use Rattle.calls.specs.Calls.{RecordOf, argument, group, subcommand, added, changed, with_row}
use Rattle.calls.specs.Runs.{CallOf, report, Answer, mark_given, too_short, listed, not_now, World, start, answer, after, answers}
use Rattle.calls.specs.Law.{ExactLaw, Reported, MarksRise}
use Rattle.calls.proofs.Outcomes.{given, Outcome, entered, altered, struck, attached, settled, kept, outcome}
use Rattle.calls.proofs.Stepping.{stepped, held_stepped}

-- a report that was accepted listed what is computed
listed_is : (b t : Bool) (n : ℕ) (ds bs : List Breach) → cond b (cond t (too_short n) (listed ds)) not_now ≡ listed bs → ds ≡ bs
listed_is true true n ds bs e = cc
listed_is true false n ds bs e = cc
listed_is false t n ds bs e = cc

module _ (look : Form → Form) where
  pub answered : (w : World) (cs : List CallOf) (i : ℕ) (c : CallOf) → Stands cs i c → Stands (answers look w cs) i (answer look (stepped w cs i) c)
  unfolding answers
  answered w [] i c s = nothing c s
  answered w (d ∷ cs) zero c s = let e : d ≡ c = cc in ap (λ (x : CallOf). Some (answer look w x)) e
  answered w (d ∷ cs) (suc i) c s = answered (after w d) cs i c s

  called : (w : World) (cs : List CallOf) (i : ℕ) (a : Answer) → Stands (answers look w cs) i a → (c : CallOf) × Stands cs i c
  unfolding answers
  called w [] i a s = nothing a s
  called w (c ∷ cs) zero a s = (c, refl)
  called w (c ∷ cs) (suc i) a s = called (after w c) cs i a s

  pub reported : (w : World) (cs : List CallOf) (i : ℕ) (bs : List Breach) → Reported cs (answers look w cs) i bs → Lists (look (form_of (stepped w cs i).book)) bs
  reported w cs i bs r =
      let f = look (form_of (stepped w cs i).book) in
      let h = answered w cs i (report r.room) r.asked in
      let t = r.told in
      let e : answer look (stepped w cs i) (report r.room) ≡ listed bs = cc in
      subst (Lists f) (listed_is (stepped w cs i).built (ltb r.room (length (breaches f))) (length (breaches f)) (breaches f) bs e) (report_lists f)

-- an answer gives no mark, or the next one, which then moves on
abbrev Counts : MarkedForm → MarkedForm → Answer → Type 0
Counts m n a = ((given a ≡ None) × (n.next ≡ m.next)) ⊎ ((given a ≡ Some m.next) × (n.next ≡ m.next + 1))

added_next : (m : MarkedForm) (r : RecordOf) → (added m r).next ≡ m.next + 1
added_next m (argument r) = refl
added_next m (group x) = refl
added_next m (subcommand r) = refl

changed_next : (m : MarkedForm) (k : ℕ) (r : RecordOf) → (changed m k r).next ≡ m.next
changed_next m k (argument r) = refl
changed_next m k (group x) = refl
changed_next m k (subcommand r) = refl

row_next : (m : MarkedForm) (k : ℕ) (l : Option ItemList) (x : ItemOf) → (with_row m k l x).next ≡ m.next
row_next m k None x = refl
row_next m k (Some l) x = refl

counts : {w v : World} {c : CallOf} {a : Answer} → Outcome w c v a → Counts w.book v.book a
counts {w} (entered r) = inr (refl, added_next w.book r)
counts {w} (altered k r) = inl (refl, changed_next w.book k r)
counts (struck k) = inl (refl, refl)
counts {w} (attached k l x) = inl (refl, row_next w.book k (list_numbered l) x)
counts (settled s) = inl (refl, refl)
counts (kept c b a g e) = inl (g, refl)

rises : (m n : MarkedForm) (a : Answer) → Counts m n a → m.next ≤ n.next
rises m n a (inl h) = omega (arith, h.1)
rises m n a (inr h) = omega (arith, h.1)

gives : (m n : MarkedForm) (a : Answer) (k : ℕ) → Some a ≡ Some (mark_given k) → Counts m n a → (k ≡ m.next) × (n.next ≡ m.next + 1)
gives m n a k e (inl h) = let z : a ≡ mark_given k = cc in nothing k (sym h.0 ∙ ap given z)
gives m n a k e (inr h) = let z : a ≡ mark_given k = cc in let y : given a ≡ Some k = ap given z in let g = h.0 in (cc, h.1)

module _ (look : Form → Form) where
  -- a mark is given at the place or later
  later : (w : World) (cs : List CallOf) (j l : ℕ) → Stands (answers look w cs) j (mark_given l) → w.book.next ≤ l
  unfolding answers
  later w [] j l s = nothing (mark_given l) s
  later w (c ∷ cs) zero l s = let g = gives w.book (after w c).book _ l s (counts (outcome look w c)) in omega (arith, g.0)
  later w (c ∷ cs) (suc j) l s =
      let h = later (after w c) cs j l s in
      let r = rises w.book (after w c).book _ (counts (outcome look w c)) in omega arith

  marks : (w : World) (cs : List CallOf) → MarksRise (answers look w cs)
  unfolding answers
  marks w [] i j k l lt s t = nothing (mark_given k) s
  marks w (c ∷ cs) i zero k l lt s t = absurd (omega arith)
  marks w (c ∷ cs) zero (suc j) k l lt s t =
      let g = gives w.book (after w c).book _ k s (counts (outcome look w c)) in
      let h = later (after w c) cs j l t in omega (arith, g.0, g.1)
  marks w (c ∷ cs) (suc i) (suc j) k l lt s t = marks (after w c) cs i j k l (omega arith) s t

pub exact_law : ExactLaw
exact_law look cs =
    let held_is = λ (i : ℕ). held_stepped look cs i in
    record {
      exact = record {
        each = λ i c s. rw (held_is i) (answered look start cs i c s);
        only = called look start cs;
      };
      marks = marks look start cs;
      lists = λ i bs r. rw (held_is i) (reported look start cs i bs r);
      sound = λ i r. rw (held_is i) (empty_means_tidy (look (form_of (stepped start cs i).book)) (reported look start cs i [] r).complete);
    }
