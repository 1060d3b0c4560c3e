-- Marks ascend in each table, so that they tell each breach of a book, and just one.
use Rattle.std.proofs.Common.{◌≡◌, ℕ, zero, suc, ◌+◌, ◌<◌, ◌≤◌, ◌⊎◌, List, [], ◌∷◌, ◌++◌, length, Some, None, Option, sym, refl, ap, ◌∙◌, subst, inl, inr, arith}
use Rattle.std.proofs.lemmas.Bool.{cases_order}
use Rattle.form.specs.Model.{Form}
use Rattle.form.specs.Lists.{list_numbered}
use Rattle.form.specs.declared.lists.EntryKind.{EntryKind}
use Rattle.form.specs.declared.lists.EntryKind.TheVariants.{Argument, Group, Subcommand}
use Rattle.form.specs.declared.lists.ItemList.{ItemList}
use Rattle.rules.specs.declared.breach.Entry.{Entry}
use Rattle.rules.specs.declared.breach.Breach.{Breach}
use Rattle.rules.specs.Order.{Stands}
use Rattle.rules.specs.Breaks.{Breaks}
use Rattle.rules.proofs.Spots.{nothing, stands_below}
use Rattle.rules.proofs.Owners.{stands_either}
use Rattle.calls.specs.Marked.{Marked, MarkedForm, ItemOf, arg_entry, group_entry, subcommand_entry, form_of}
use Rattle.calls.specs.Calls.{RecordOf, argument, group, subcommand, kept, added, changed, with_row, without, replaced}
use Rattle.calls.specs.Runs.{CallOf, Answer, World, start, after}
use Rattle.calls.specs.Law.{Bears, MarkAt, MarkedEntry, ToldEntry, MarkedBreach, Told}
use Rattle.calls.proofs.Tables.{Any, Keeps, here, mark_replaced, kept_from, unlike, keeps_without_back}
use Rattle.calls.proofs.Carrying.{stands_map}
use Rattle.calls.proofs.Entries.{StandingAt, Standing, standing}
use Rattle.calls.proofs.Outcomes as outcome
use Rattle.calls.proofs.Outcomes.{Outcome}
use Rattle.calls.proofs.Stepping.{stepped}

-- the marks of the table ascend, and are below the next one
record Rises {X : Type 0} (es : List (Marked X)) (next : ℕ) : Type 0 where
  below : (p : ℕ) (e : Marked X) → Stands es p e → e.mark < next
  order : (p q : ℕ) (d e : Marked X) → p < q → Stands es p d → Stands es q e → d.mark < e.mark

-- a table that has its marks from another, in the same order
rises_from : {X : Type 0} {es ds : List (Marked X)} {n m : ℕ} (to : ℕ → ℕ) → ((p : ℕ) (e : Marked X) → Stands ds p e → (d : Marked X) × Stands es (to p) d × (e.mark ≡ d.mark))
    → ((p q : ℕ) → p < q → to p < to q) → n ≤ m → Rises es n → Rises ds m
rises_from to from up le r = record {
  below = λ p e s. let (d, t, q) = from p e s in let h = r.below (to p) d t in omega arith;
  order = λ p q d e lt s t.
      let (x, u, i) = from p d s in
      let (y, v, j) = from q e t in
      let h = r.order (to p) (to q) x y (up p q lt) u v in omega arith;
}

rises_later : {X : Type 0} {es : List (Marked X)} {n m : ℕ} → n ≤ m → Rises es n → Rises es m
rises_later = rises_from here (λ p e s. (e, s, refl)) (λ p q lt. lt)

rises_replaced : {X : Type 0} {n : ℕ} (k : ℕ) (x : X) (es : List (Marked X)) → Rises es n → Rises (replaced k x es) n
rises_replaced k x es = rises_from here (mark_replaced k x es) (λ p q lt. lt) (omega arith)

rises_without : {X : Type 0} {n : ℕ} (k : ℕ) (es : List (Marked X)) → Rises es n → Rises (without k es) n
rises_without k es r = record {
  below = λ p e s. r.below _ e (stays p e s);
  order = λ p q d e lt s t. r.order _ _ d e (keeps.order p q d s tt lt) (stays p d s) (stays q e t);
}
  where
    keeps : Keeps Any (without k es) es (kept_from (unlike k) es)
    keeps = keeps_without_back k es

    stays : (p : ℕ) (e : Marked _) → Stands (without k es) p e → Stands es (kept_from (unlike k) es p) e
    stays p e s = keeps.stays p e s tt

alone : {X : Type 0} (d e : X) (j : ℕ) → Stands (d ∷ []) j e → (j ≡ 0) × (e ≡ d)
alone d e zero s = (refl, cc)
alone d e (suc j) s = nothing e s

module _ {X : Type 0} (n : ℕ) (es : List (Marked X)) (l : Marked X) (is : l.mark ≡ n) (r : Rises es n) where
  abbrev OldOrLast : ℕ → Marked X → Type 0
  OldOrLast p e = Stands es p e ⊎ ((j : ℕ) × (p ≡ length es + j) × Stands (l ∷ []) j e)

  below_next : (p : ℕ) (e : Marked X) → OldOrLast p e → e.mark < n + 1
  below_next p e (inl s) = let h = r.below p e s in omega arith
  below_next p e (inr (j, i, s)) = let h = ap (λ z. z.mark) (alone l e j s).1 in omega arith

  order_next : (p q : ℕ) (d e : Marked X) → p < q → OldOrLast p d → OldOrLast q e → d.mark < e.mark
  order_next p q d e lt (inl s) (inl t) = r.order p q d e lt s t
  order_next p q d e lt (inl s) (inr (j, i, t)) = let h = r.below p d s in let k = ap (λ z. z.mark) (alone l e j t).1 in omega arith
  order_next p q d e lt (inr (j, i, s)) (inl t) = let h = stands_below es q e t in absurd (omega arith)
  order_next p q d e lt (inr (j, i, s)) (inr (k, u, t)) = let h = (alone l d j s).0 in let v = (alone l e k t).0 in absurd (omega arith)

  rises_added : Rises (es ++ l ∷ []) (n + 1)
  rises_added = record {
    below = λ p e s. below_next p e (stands_either es (l ∷ []) p e s);
    order = λ p q d e lt s t. order_next p q d e lt (stands_either es (l ∷ []) p d s) (stands_either es (l ∷ []) q e t);
  }

-- the marks of a book
pub record Rising (m : MarkedForm) : Type 0 where
  args : Rises m.args m.next
  groups : Rises m.groups m.next
  subcommands : Rises m.subcommands m.next

rising_added : (m : MarkedForm) (r : RecordOf) → Rising m → Rising (added m r)
rising_added m (argument r) h = record { args = rises_added m.next m.args _ refl h.args; groups = rises_later (omega arith) h.groups; subcommands = rises_later (omega arith) h.subcommands }
rising_added m (group x) h = record { args = rises_later (omega arith) h.args; groups = rises_added m.next m.groups _ refl h.groups; subcommands = rises_later (omega arith) h.subcommands }
rising_added m (subcommand r) h = record { args = rises_later (omega arith) h.args; groups = rises_later (omega arith) h.groups; subcommands = rises_added m.next m.subcommands _ refl h.subcommands }

rising_changed : (m : MarkedForm) (k : ℕ) (r : RecordOf) → Rising m → Rising (changed m k r)
rising_changed m k (argument r) h = record { args = rises_replaced k (kept r) m.args h.args; groups = h.groups; subcommands = h.subcommands }
rising_changed m k (group x) h = record { args = h.args; groups = rises_replaced k x m.groups h.groups; subcommands = h.subcommands }
rising_changed m k (subcommand r) h = record { args = h.args; groups = h.groups; subcommands = rises_replaced k r m.subcommands h.subcommands }

rising_row : (m : MarkedForm) (k : ℕ) (l : Option ItemList) (x : ItemOf) → Rising m → Rising (with_row m k l x)
rising_row m k None x h = h
rising_row m k (Some l) x h = record { args = h.args; groups = h.groups; subcommands = h.subcommands }

rising_after : {w v : World} {c : CallOf} {a : Answer} → Outcome w c v a → Rising w.book → Rising v.book
rising_after {w} (outcome.entered r) h = rising_added w.book r h
rising_after {w} (outcome.altered k r) h = rising_changed w.book k r h
rising_after {w} (outcome.struck k) h = let m = w.book in record { args = rises_without k m.args h.args; groups = rises_without k m.groups h.groups; subcommands = rises_without k m.subcommands h.subcommands }
rising_after {w} (outcome.attached k l x) h = rising_row w.book k (list_numbered l) x h
rising_after (outcome.settled s) h = record { args = h.args; groups = h.groups; subcommands = h.subcommands }
rising_after (outcome.kept c b a g e) h = h

rising_stepped : (look : Form → Form) (w : World) (cs : List CallOf) (i : ℕ) → Rising w.book → Rising (stepped w cs i).book
rising_stepped look w cs zero h = h
rising_stepped look w [] (suc i) h = h
rising_stepped look w (c ∷ cs) (suc i) h = rising_stepped look (after w c) cs i (rising_after (outcome.outcome look w c) h)

none_rise : {X : Type 0} (n : ℕ) → Rises {X = X} [] n
none_rise n = record { below = λ p e s. nothing e s; order = λ p q d e lt s t. nothing d s }

pub rising : (look : Form → Form) (cs : List CallOf) (i : ℕ) → Rising (stepped start cs i).book
rising look cs i = rising_stepped look start cs i (record { args = none_rise 1; groups = none_rise 1; subcommands = none_rise 1 })

-- A mark stands at one place of a table.
one_place : {X : Type 0} {es : List (Marked X)} {n : ℕ} → Rises es n → (p q k : ℕ) → Bears es p k → Bears es q k → p ≡ q
one_place r p q k (d, s, i) (e, t, j) = elim (cases_order p q) [
  | inl h ↦ h
  | inr (inl lt) ↦ let h = r.order p q d e lt s t in absurd (omega arith)
  | inr (inr lt) ↦ let h = r.order q p e d lt t s in absurd (omega arith)
]

module _ (m : MarkedForm) (h : Rising m) where
  place_once : (kind : EntryKind) (p q k : ℕ) → MarkAt m kind p k → MarkAt m kind q k → p ≡ q
  place_once Argument = one_place h.args
  place_once Group = one_place h.groups
  place_once Subcommand = one_place h.subcommands

  entry_once : (o q : Option Entry) (s : Option MarkedEntry) → ToldEntry m o s → ToldEntry m q s → o ≡ q
  entry_once None None s t u = refl
  entry_once None (Some e) None t u = absurd u
  entry_once None (Some e) (Some k) t u = absurd t
  entry_once (Some d) None None t u = absurd t
  entry_once (Some d) None (Some k) t u = absurd u
  entry_once (Some d) (Some e) None t u = absurd t
  entry_once (Some d) (Some e) (Some k) (x, s) (y, t) =
      let kinds : d.kind ≡ e.kind = x ∙ sym y in
      let places = place_once e.kind d.place e.place k.mark (subst (λ (z : EntryKind). MarkAt m z d.place k.mark) kinds s) t in
      λ i. Some (record { kind = kinds i; place = places i })

  pub told_once : (b d : Breach) (t : MarkedBreach) → Told m b t → Told m d t → b ≡ d
  told_once b d t x y =
      let rules = x.rule ∙ sym y.rule in
      let firsts = entry_once b.first d.first t.first x.first y.first in
      let seconds = entry_once b.second d.second t.second x.second y.second in
      let lists = x.list ∙ sym y.list in
      let items = x.item ∙ sym y.item in
      let others = x.other ∙ sym y.other in
      λ i. record { rule = rules i; first = firsts i; second = seconds i; list = lists i; item = items i; other = others i }

-- Every entry that a breach names has a mark.
module _ (m : MarkedForm) where
  marked_at : (kind : EntryKind) (p : ℕ) → StandingAt (form_of m) kind p → (k : ℕ) × MarkAt m kind p k
  marked_at Argument p (a, s) = let (e, t, q) = stands_map (arg_entry m.rows) m.args p a s in (e.mark, (e, t, refl))
  marked_at Group p (g, s) = let (e, t, q) = stands_map (group_entry m.rows) m.groups p g s in (e.mark, (e, t, refl))
  marked_at Subcommand p (c, s) = let (e, t, q) = stands_map (subcommand_entry m.rows) m.subcommands p c s in (e.mark, (e, t, refl))

  entry_told : (o : Option Entry) → Standing (form_of m) o → (s : Option MarkedEntry) × ToldEntry m o s
  entry_told None h = (None, tt)
  entry_told (Some e) h = let (k, t) = marked_at e.kind e.place h in (Some (record { kind = e.kind; mark = k }), (refl, t))

  pub told_as : (b : Breach) → Breaks (form_of m) b → (t : MarkedBreach) × Told m b t
  told_as b h =
      let (x, y) = standing (form_of m) b h in
      let (s, u) = entry_told b.first x in
      let (r, v) = entry_told b.second y in (
        record { rule = b.rule; first = s; second = r; list = b.list; item = b.item; other = b.other },
        record { rule = refl; first = u; second = v; list = refl; item = refl; other = refl },
      )
