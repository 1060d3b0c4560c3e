-- A breach comes or goes between two reports only where a call between them touched what it is about.
use Rattle.std.proofs.Common.{◌≡◌, ℕ, suc, ◌<◌, ◌≤◌, true, ◌⊎◌, List, ap, ◌∙◌, subst, inl, inr, arith}
use Rattle.std.proofs.lemmas.Bool.{cases_eq}
use Rattle.form.specs.Model.{Name, Form}
use Rattle.rules.specs.declared.breach.Breach.{Breach}
use Rattle.rules.specs.Order.{Stands, Member}
use Rattle.rules.specs.Breaks.{Breaks}
use Rattle.rules.specs.Rank.{Lists}
use Rattle.rules.specs.Laws.{missing, class, local}
use Rattle.calls.specs.Marked.{MarkedForm, form_of}
use Rattle.calls.specs.Runs.{CallOf, report, Answer, World, start, answer, after, answers, plain}
use Rattle.calls.specs.Law.{held, Called, Reported, MarkedBreach, Told, JustOne, Touches, Touched, Names, MissingName, HasId, IdTouched, Stable, StableMissing, StableLaw}
use Rattle.calls.proofs.Outcomes.{outcome}
use Rattle.calls.proofs.Stepping.{stepped, stepped_next, held_stepped}
use Rattle.calls.proofs.Exactness.{answered, reported}
use Rattle.calls.proofs.Tables.{Any, Other}
use Rattle.calls.proofs.Lacking.{lacking, lack_named}
use Rattle.calls.proofs.Carrying.{Holds, HoldsMissing, carried, carried_missing}
use Rattle.calls.proofs.Effects.{Effect, still, touched, effect}
use Rattle.calls.proofs.Between.{Alike, between}
use Rattle.calls.proofs.Marks.{told_as, told_once, rising}
use Rattle.calls.proofs.Searches.{names?, has_id?}

-- One call.
abbrev NamesHit : MarkedBreach → World → CallOf → Type 0
NamesHit t w c = (k : ℕ) × Names t k × Touches c (answer plain w c) k

abbrev IdHit : Name → World → CallOf → Type 0
IdHit x w c = (k : ℕ) × Touches c (answer plain w c) k × (HasId w.book k x ⊎ HasId (after w c).book k x)

one_call : (t : MarkedBreach) → local (class t.rule) ≡ true → (w : World) (c : CallOf) → NamesHit t w c ⊎ Alike (Holds t) w.book (after w c).book
one_call t is w c = at (effect (outcome plain w c))
  where
    at : {n : MarkedForm} {a : Answer} → Effect w.book n c a → ((k : ℕ) × Names t k × Touches c a k) ⊎ Alike (Holds t) w.book n
    at {n} (still on back) = inr (carried Any w.book n on t (λ k h. tt) is, carried Any n w.book back t (λ k h. tt) is)
    at {n} (touched x h but) = elim (names? t x) [
      | inl k ↦ inl (x, k, h)
      | inr never ↦
          let free = λ (k : ℕ) (r : Names t k) (e : k ≡ x). never (subst (Names t) e r) in
          inr (carried (Other x) w.book n but.on t free is, carried (Other x) n w.book but.back t free is)
    ]

one_call_missing : (t : MarkedBreach) (x : Name) → class t.rule ≡ missing → (w : World) (c : CallOf) → (NamesHit t w c ⊎ IdHit x w c) ⊎ Alike (HoldsMissing t x) w.book (after w c).book
one_call_missing t x is w c = at (effect (outcome plain w c))
  where
    at : {n : MarkedForm} {a : Answer} → Effect w.book n c a
        → (((k : ℕ) × Names t k × Touches c a k) ⊎ ((k : ℕ) × Touches c a k × (HasId w.book k x ⊎ HasId n k x))) ⊎ Alike (HoldsMissing t x) w.book n
    at {n} (still on back) = inr (carried_missing Any w.book n on back t (λ k h. tt) x (λ k h. tt) is, carried_missing Any n w.book back on t (λ k h. tt) x (λ k h. tt) is)
    at {n} (touched y h but) = elim (names? t y) [
      | inl k ↦ inl (inl (y, k, h))
      | inr never ↦ elim (has_id? w.book y x) [
        | inl k ↦ inl (inr (y, h, inl k))
        | inr none ↦ elim (has_id? n y x) [
          | inl k ↦ inl (inr (y, h, inr k))
          | inr neither ↦
              let free = λ (k : ℕ) (r : Names t k) (e : k ≡ y). never (subst (Names t) e r) in
              let before = λ (k : ℕ) (r : HasId w.book k x) (e : k ≡ y). none (subst (λ (z : ℕ). HasId w.book z x) e r) in
              let after = λ (k : ℕ) (r : HasId n k x) (e : k ≡ y). neither (subst (λ (z : ℕ). HasId n z x) e r) in
              inr (carried_missing (Other y) w.book n but.on but.back t free x after is, carried_missing (Other y) n w.book but.back but.on t free x before is)
        ]
      ]
    ]

-- what is told of a breach of two forms alike stands in both of their lists or in neither
apart : {f g : Form} {bs ds : List Breach} (T U : Breach → Type 0) → Lists f bs → Lists g ds
    → (((b : Breach) × Breaks f b × T b) → ((b : Breach) × Breaks g b × U b)) × (((b : Breach) × Breaks g b × U b) → ((b : Breach) × Breaks f b × T b))
    → JustOne ((b : Breach) × Member b bs × T b) ((b : Breach) × Member b ds × U b) → ⊥
apart T U l k e (inl ((b, m, t), never)) = let (d, h, u) = e.0 (b, l.sound b m, t) in never (d, k.complete d h, u)
apart T U l k e (inr (never, (b, m, u))) = let (d, h, t) = e.1 (b, k.sound b m, u) in never (d, l.complete d h, t)

module _ (cs : List CallOf) where
  abbrev os : List Answer
  os = answers plain start cs

  abbrev before : ℕ → World
  before = stepped start cs

  -- a report touches nothing, so that what is touched from it on is touched after it
  touch : (i j n k room : ℕ) (c : CallOf) → Called cs i (report room) → i ≤ n → n < j → Stands cs n c → Touches c (answer plain (before n) c) k → Touched cs os i j n k
  touch i j n k room c asked lo lt s h = record {
    call = c;
    answer = answer plain (before n) c;
    after = past (cases_eq i n);
    before = lt;
    called = s;
    answered = answered plain start cs n c s;
    touches = h;
  }
    where
      past : (i ≡ n) ⊎ (i ≡ n → ⊥) → i < n
      past (inl e) = let q : c ≡ report room = cc in absurd (subst (λ (d : CallOf). Touches d (answer plain (before n) c) k) q h)
      past (inr never) = omega arith

  lists : (i : ℕ) (bs : List Breach) → Reported cs os i bs → Lists (form_of (before i).book) bs
  lists = reported plain start cs

  stable : Stable cs os
  stable = record {
    told = λ i bs b r m. rw (held_stepped plain cs i) (told_as (before i).book b ((lists i bs r).sound b m));
    once = λ i b d t. rw (held_stepped plain cs i) (told_once (before i).book (rising plain cs i) b d t);
    stable = λ i j bs ds t lt r q is. rw (held_stepped plain cs i, held_stepped plain cs j) (λ just.
        elim (between (Holds t) (NamesHit t) (one_call t is) start cs i j (omega arith)) [
          | inl (n, c, lo, up, s, (k, names, h)) ↦ (n, k, names, touch i j n k r.room c r.asked lo up s h)
          | inr alike ↦ absurd (apart (λ b. Told (before i).book b t) (λ b. Told (before j).book b t) (lists i bs r) (lists j ds q) alike just)
        ]);
  }

  touch_id : (i j n k room : ℕ) (x : Name) (c : CallOf) → Called cs i (report room) → i ≤ n → n < j → Stands cs n c → Touches c (answer plain (before n) c) k
      → HasId (before n).book k x ⊎ HasId (after (before n) c).book k x → IdTouched cs os i j x
  touch_id i j n k room x c asked lo up s h has =
      let then : held cs os (suc n) ≡ after (before n) c = held_stepped plain cs (suc n) ∙ stepped_next start cs n c s in
      (n, k, touch i j n k room c asked lo up s h, rw (held_stepped plain cs n, then) has)

  abbrev tells : ℕ → MarkedBreach → Name → Breach → Type 0
  tells i t x b = Told (before i).book b t × MissingName (form_of (before i).book) b x

  stable_missing : StableMissing cs os
  stable_missing = record {
    told = λ i bs t r is. rw (held_stepped plain cs i) (λ (b, m, told).
        let (x, name) = lack_named (form_of (before i).book) b (lacking (form_of (before i).book) b (ap class told.rule ∙ is) ((lists i bs r).sound b m)) in
        (x, (b, m, (told, name))));
    stable = λ i j bs ds t x lt r q is. rw (held_stepped plain cs i, held_stepped plain cs j) (λ just.
        elim (between (HoldsMissing t x) (λ w c. NamesHit t w c ⊎ IdHit x w c) (one_call_missing t x is) start cs i j (omega arith)) [
          | inl (n, c, lo, up, s, inl (k, names, h)) ↦ inl (n, k, names, touch i j n k r.room c r.asked lo up s h)
          | inl (n, c, lo, up, s, inr (k, h, has)) ↦ inr (touch_id i j n k r.room x c r.asked lo up s h has)
          | inr alike ↦ absurd (apart (tells i t x) (tells j t x) (lists i bs r) (lists j ds q) alike just)
        ]);
  }

pub stable_law : StableLaw
stable_law cs = (stable cs, stable_missing cs)
