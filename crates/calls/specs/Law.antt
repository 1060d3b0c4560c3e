-- The law over a whole run: relations between the calls and their answers, by their places in the run.
use Rattle.std.specs.Prelude.{◌≡◌, ℕ, zero, suc, ◌<◌, Bool, true, false, cond, ◌⊎◌, List, [], ◌∷◌, Some, None, Option}
use Rattle.form.specs.Model.{Name, Form}
use Rattle.form.specs.Lists.{list_numbered, names_at}
use Rattle.form.specs.declared.lists.EntryKind.{EntryKind}
use Rattle.form.specs.declared.lists.EntryKind.TheVariants.{Argument, Group, Subcommand}
use Rattle.form.specs.declared.lists.ItemList.{ItemList}
use Rattle.rules.specs.declared.rule.Rule.{Rule}
use Rattle.rules.specs.declared.breach.Entry.{Entry}
use Rattle.rules.specs.declared.breach.Breach.{Breach}
use Rattle.rules.specs.Order.{Stands, Member}
use Rattle.rules.specs.Rank.{Lists}
use Rattle.rules.specs.Tidy.{Tidy}
use Rattle.rules.specs.Laws.{missing, class, local}
use Rattle.calls.specs.Marked.{Marked, MarkedForm, form_of}
use Rattle.calls.specs.Calls.{added, changed, removed, with_row, with_settings}
use Rattle.calls.specs.Runs.{CallOf, enter, alter, unmade, strike, attach, set, build, reopen, report, first, find, Answer, mark_given, done, refused, too_short, listed, first_told, place_found, not_now, World, start, built_after, answer, answers, plain}

-- the call at place i is c
abbrev pub Called : List CallOf → ℕ → CallOf → Type 0
Called cs i c = Stands cs i c

-- the answer to it is a
abbrev pub Answered : List Answer → ℕ → Answer → Type 0
Answered os i a = Stands os i a

-- The book that is held is what the accepted calls make, and nothing else.
-- whether a call was accepted
abbrev pub accepted : Answer → Bool
accepted (mark_given n) = true
accepted done = true
accepted (refused e) = false
accepted (too_short n) = false
accepted (listed bs) = true
accepted (first_told b) = true
accepted (place_found p) = true
accepted not_now = false

-- the accepted calls among the first i
abbrev pub accepted_before : ℕ → List CallOf → List Answer → List CallOf
accepted_before zero cs os = []
accepted_before (suc i) [] os = []
accepted_before (suc i) (c ∷ cs) [] = []
accepted_before (suc i) (c ∷ cs) (a ∷ os) = cond (accepted a) (c ∷ accepted_before i cs os) (accepted_before i cs os)

-- what an accepted call makes of a marked form
abbrev pub change : MarkedForm → CallOf → MarkedForm
change m (enter r) = added m r
change m (alter k r) = changed m k r
change m unmade = m
change m (strike k) = removed m k
change m (attach k l x) = with_row m k (list_numbered l) x
change m (set s) = with_settings m s
change m build = m
change m reopen = m
change m (report room) = m
change m first = m
change m (find k) = m

-- the book that accepted calls make, one after another
abbrev pub made_from : World → List CallOf → World
made_from w [] = w
made_from w (c ∷ cs) = made_from (record { built = built_after w.built c; book = change w.book c }) cs

-- the book that is held before the call at place i
abbrev pub held : List CallOf → List Answer → ℕ → World
held cs os i = made_from start (accepted_before i cs os)

-- the call at place i is a report, and it was accepted and listed these breaches
pub record Reported (cs : List CallOf) (os : List Answer) (i : ℕ) (bs : List Breach) : Type 0 where
  pub room : ℕ
  pub asked : Called cs i (report room)
  pub told : Answered os i (listed bs)

-- EXACT. Every call has one answer, and it is the one defined for the book then held, which is what the accepted calls before it make.
pub record Exact (look : Form → Form) (cs : List CallOf) (os : List Answer) : Type 0 where
  pub each : (i : ℕ) (c : CallOf) → Called cs i c → Answered os i (answer look (held cs os i) c)
  pub only : (i : ℕ) (a : Answer) → Answered os i a → (c : CallOf) × Called cs i c

-- MARKS. The marks that a run gives rise: none is given twice, whatever was struck in between.
abbrev pub MarksRise : List Answer → Type 0
MarksRise os = (i j k l : ℕ) → i < j → Answered os i (mark_given k) → Answered os j (mark_given l) → k < l

-- LISTS. Every accepted report lists every breach of the form then asked about, each exactly once, in order.
abbrev pub AllListed : (Form → Form) → List CallOf → List Answer → Type 0
AllListed look cs os = (i : ℕ) (bs : List Breach) → Reported cs os i bs → Lists (look (form_of (held cs os i).book)) bs

-- SOUND. Where an accepted report is empty, that form is tidy.
abbrev pub Sound : (Form → Form) → List CallOf → List Answer → Type 0
Sound look cs os = (i : ℕ) → Reported cs os i [] → Tidy (look (form_of (held cs os i).book))

-- Breaches between two reports are told by marks, since places may close up.
-- the entry at a place of a table bears the mark
abbrev pub Bears : {X : Type 0} → List (Marked X) → ℕ → ℕ → Type 0
Bears {X} es p k = (e : Marked X) × Stands es p e × (e.mark ≡ k)

abbrev pub MarkAt : MarkedForm → EntryKind → ℕ → ℕ → Type 0
MarkAt m Argument p k = Bears m.args p k
MarkAt m Group p k = Bears m.groups p k
MarkAt m Subcommand p k = Bears m.subcommands p k

-- an entry told by its mark
pub record MarkedEntry : Type 0 where
  pub kind : EntryKind
  pub mark : ℕ

abbrev pub ToldEntry : MarkedForm → Option Entry → Option MarkedEntry → Type 0
ToldEntry m None None = Unit {0}
ToldEntry m None (Some k) = ⊥
ToldEntry m (Some e) None = ⊥
ToldEntry m (Some e) (Some k) = (e.kind ≡ k.kind) × MarkAt m e.kind e.place k.mark

-- a breach told by the marks of its entries
pub record MarkedBreach : Type 0 where
  pub rule : Rule
  pub first : Option MarkedEntry
  pub second : Option MarkedEntry
  pub list : Option ItemList
  pub item : ℕ
  pub other : ℕ

-- b, in the book m, is told as t
pub record Told (m : MarkedForm) (b : Breach) (t : MarkedBreach) : Type 0 where
  pub rule : b.rule ≡ t.rule
  pub first : ToldEntry m b.first t.first
  pub second : ToldEntry m b.second t.second
  pub list : b.list ≡ t.list
  pub item : b.item ≡ t.item
  pub other : b.other ≡ t.other

-- t stands in a report of the book m
abbrev pub In : MarkedForm → List Breach → MarkedBreach → Type 0
In m bs t = (b : Breach) × Member b bs × Told m b t

-- just one of the two holds
abbrev pub JustOne : Type 0 → Type 0 → Type 0
JustOne A B = (A × (B → ⊥)) ⊎ ((A → ⊥) × B)

-- the call, answered so, entered the entry of this mark, or altered it, struck it or attached to it
abbrev pub Touches : CallOf → Answer → ℕ → Type 0
Touches (enter r) a k = a ≡ mark_given k
Touches (alter m r) a k = (a ≡ done) × (m ≡ k)
Touches unmade a k = ⊥
Touches (strike m) a k = (a ≡ done) × (m ≡ k)
Touches (attach m l x) a k = (a ≡ done) × (m ≡ k)
Touches (set s) a k = ⊥
Touches build a k = ⊥
Touches reopen a k = ⊥
Touches (report room) a k = ⊥
Touches first a k = ⊥
Touches (find key) a k = ⊥

-- an accepted call at n, after i and before j, touched the entry of the mark k
pub record Touched (cs : List CallOf) (os : List Answer) (i j n k : ℕ) : Type 0 where
  pub call : CallOf
  pub answer : Answer
  pub after : i < n
  pub before : n < j
  pub called : Called cs n call
  pub answered : Answered os n answer
  pub touches : Touches call answer k

-- the breach names the entry of this mark
abbrev pub Names : MarkedBreach → ℕ → Type 0
Names t k = ((e : MarkedEntry) × (t.first ≡ Some e) × (e.mark ≡ k)) ⊎ ((e : MarkedEntry) × (t.second ≡ Some e) × (e.mark ≡ k))

-- a call between i and j touched an entry that the breach names
abbrev pub NamedTouched : List CallOf → List Answer → ℕ → ℕ → MarkedBreach → Type 0
NamedTouched cs os i j t = (n : ℕ) × (k : ℕ) × Names t k × Touched cs os i j n k

-- STABLE, for own and pair rules. Every breach of an accepted report is told by the marks of its entries, and in one book what is told is one breach.
-- Where it stands in just one of two accepted reports, it names an entry that an accepted call between them touched.
pub record Stable (cs : List CallOf) (os : List Answer) : Type 0 where
  pub told : (i : ℕ) (bs : List Breach) (b : Breach) → Reported cs os i bs → Member b bs → (t : MarkedBreach) × Told (held cs os i).book b t
  pub once : (i : ℕ) (b d : Breach) (t : MarkedBreach) → Told (held cs os i).book b t → Told (held cs os i).book d t → b ≡ d
  pub stable : (i j : ℕ) (bs ds : List Breach) (t : MarkedBreach) → i < j → Reported cs os i bs → Reported cs os j ds → local (class t.rule) ≡ true
      → JustOne (In (held cs os i).book bs t) (In (held cs os j).book ds t)
      → NamedTouched cs os i j t

-- x is the name that the breach b of the form f tells as missing: the item that it points at
abbrev pub MissingName : Form → Breach → Name → Type 0
MissingName f b x = (e : Entry) × (l : ItemList) × (b.first ≡ Some e) × (b.list ≡ Some l) × Stands (names_at f l e.place) b.item x

-- t stands in a report of the book m, and tells x as missing
abbrev pub InMissing : MarkedForm → List Breach → MarkedBreach → Name → Type 0
InMissing m bs t x = (b : Breach) × Member b bs × (Told m b t × MissingName (form_of m) b x)

-- an entry of the table has the mark k and the id x
abbrev pub MarkedId : {X : Type 0} → (X → Name) → List (Marked X) → ℕ → Name → Type 0
MarkedId {X} id es k x = (p : ℕ) × (e : Marked X) × Stands es p e × (e.mark ≡ k) × (id e.of ≡ x)

-- the entry of the mark k is an argument or a group with the id x
abbrev pub HasId : MarkedForm → ℕ → Name → Type 0
HasId m k x = MarkedId (λ r. r.id) m.args k x ⊎ MarkedId (λ y. y) m.groups k x

-- a call between i and j touched an entry whose id, before or after that call, is x
abbrev pub IdTouched : List CallOf → List Answer → ℕ → ℕ → Name → Type 0
IdTouched cs os i j x = (n : ℕ) × (k : ℕ) × Touched cs os i j n k × (HasId (held cs os n).book k x ⊎ HasId (held cs os (suc n)).book k x)

-- STABLE, for missing names. A missing-name breach of an accepted report tells a missing name. Where it stands with that name in just one of two accepted reports,
-- it names an entry that an accepted call between them touched, or such a call touched an entry whose id, before or after it, is the missing name.
pub record StableMissing (cs : List CallOf) (os : List Answer) : Type 0 where
  pub told : (i : ℕ) (bs : List Breach) (t : MarkedBreach) → Reported cs os i bs → class t.rule ≡ missing
      → In (held cs os i).book bs t → (x : Name) × InMissing (held cs os i).book bs t x
  pub stable : (i j : ℕ) (bs ds : List Breach) (t : MarkedBreach) (x : Name) → i < j → Reported cs os i bs → Reported cs os j ds → class t.rule ≡ missing
      → JustOne (InMissing (held cs os i).book bs t x) (InMissing (held cs os j).book ds t x)
      → NamedTouched cs os i j t ⊎ IdTouched cs os i j x

-- What every run has, whatever form its reports are asked about: the book's own, or with layers over it.
pub record Run (look : Form → Form) (cs : List CallOf) (os : List Answer) : Type 0 where
  pub exact : Exact look cs os
  pub marks : MarksRise os
  pub lists : AllListed look cs os
  pub sound : Sound look cs os

-- The answers of every run from a new book are such.
abbrev pub ExactLaw : Type 0
ExactLaw = (look : Form → Form) (cs : List CallOf) → Run look cs (answers look start cs)

-- A run whose reports are asked of the book itself is stable too.
abbrev pub StableLaw : Type 0
StableLaw = (cs : List CallOf) → Stable cs (answers plain start cs) × StableMissing cs (answers plain start cs)
