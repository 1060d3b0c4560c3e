-- What a call can come to: one of the five changes, or the entries stay as they are.
use Rattle.std.proofs.Common.{◌≡◌, ℕ, Bool, true, false, cond, not, ltb, List, length, is_ok, Some, None, Ok, Err, Option, Result, refl}
use Rattle.form.specs.Model.{Form}
use Rattle.form.specs.Names.{scalar}
use Rattle.form.specs.Lists.{list_numbered}
use Rattle.form.specs.Keys.{position, letter, long, Key, keys_of, first_key}
use Rattle.form.specs.declared.refusal.Refusal.{Refusal}
use Rattle.form.specs.declared.refusal.Refusal.TheVariants.{NameLength, NoScalar, TableFull, MarksSpent, NoSuchMark, NoSuchKey}
use Rattle.rules.specs.declared.breach.Breach.{Breach}
use Rattle.rules.specs.Report.{breaches}
use Rattle.calls.specs.Marked.{MarkedForm, ItemOf, form_of}
use Rattle.calls.specs.Calls.{RecordOf, good_names, good_letters, full, added, alter_answer, changed, marked, removed, attach_answer, with_row, with_settings}
use Rattle.calls.specs.Runs.{SoughtOf, by_position, by_letter, by_long, CallOf, enter, alter, unmade, strike, attach, set, build, reopen, report, first, find, Answer, mark_given, done, refused, too_short, listed, first_told, place_found, not_now, World, mark_or, done_or, place_or, find_answer, built_after, answer, after}
use Rattle.calls.specs.Law.{accepted, change}

-- the mark that an answer gives
abbrev pub given : Answer → Option ℕ
given (mark_given k) = Some k
given done = None
given (refused e) = None
given (too_short n) = None
given (listed bs) = None
given (first_told b) = None
given (place_found p) = None
given not_now = None

abbrev pub world : Bool → MarkedForm → World
world b m = record { built = b; book = m }

-- the book if the call is accepted makes its change, and else stays
abbrev pub made : World → CallOf → World
made w c = world (built_after w.built c) (change w.book c)

pub data Outcome (w : World) : CallOf → World → Answer → Type 0 where
  entered : (r : RecordOf) → Outcome w (enter r) (world w.built (added w.book r)) (mark_given w.book.next)
  altered : (k : ℕ) (r : RecordOf) → Outcome w (alter k r) (world w.built (changed w.book k r)) done
  struck : (k : ℕ) → Outcome w (strike k) (world w.built (removed w.book k)) done
  attached : (k l : ℕ) (x : ItemOf) → Outcome w (attach k l x) (world w.built (with_row w.book k (list_numbered l) x)) done
  settled : (s : ℕ) → Outcome w (set s) (world w.built (with_settings w.book s)) done
  kept : (c : CallOf) (b : Bool) (a : Answer) → given a ≡ None → world b w.book ≡ cond (accepted a) (made w c) w → Outcome w c (world b w.book) a

-- an open book
module _ (m : MarkedForm) where
  enters : (r : RecordOf) (p q s t : Bool)
      → let x : Result ℕ Refusal = cond p (Err NameLength) (cond q (Err NoScalar) (cond s (Err TableFull) (cond t (Err MarksSpent) (Ok m.next)))) in
      Outcome (world false m) (enter r) (world false (cond (is_ok x) (added m r) m)) (mark_or x)
  enters r true q s t = kept (enter r) false _ refl refl
  enters r false true s t = kept (enter r) false _ refl refl
  enters r false false true t = kept (enter r) false _ refl refl
  enters r false false false true = kept (enter r) false _ refl refl
  enters r false false false false = entered r

  alters : (k : ℕ) (r : RecordOf) (x : Result Unit Refusal) → Outcome (world false m) (alter k r) (world false (cond (is_ok x) (changed m k r) m)) (done_or x)
  alters k r (Ok u) = altered k r
  alters k r (Err e) = kept (alter k r) false _ refl refl

  strikes : (k : ℕ) (t : Bool) → Outcome (world false m) (strike k) (world false (cond t (removed m k) m)) (done_or (cond t (Ok tt) (Err NoSuchMark)))
  strikes k true = struck k
  strikes k false = kept (strike k) false _ refl refl

  attaches : (k l : ℕ) (i : ItemOf) (x : Result Unit Refusal) → Outcome (world false m) (attach k l i) (world false (cond (is_ok x) (with_row m k (list_numbered l) i) m)) (done_or x)
  attaches k l i (Ok u) = attached k l i
  attaches k l i (Err e) = kept (attach k l i) false _ refl refl

-- what is only asked
reports : (m : MarkedForm) (room : ℕ) (t : Bool) (n : ℕ) (bs : List Breach) → Outcome (world true m) (report room) (world true m) (cond t (too_short n) (listed bs))
reports m room true n bs = kept (report room) true _ refl refl
reports m room false n bs = kept (report room) true _ refl refl

finds : (m : MarkedForm) (k : SoughtOf) (o : Option ℕ) → Outcome (world true m) (find k) (world true m) (place_or o)
finds m k None = kept (find k) true _ refl refl
finds m k (Some p) = kept (find k) true _ refl refl

finds_letter : (m : MarkedForm) (k : SoughtOf) (t : Bool) (o : Option ℕ) → Outcome (world true m) (find k) (world true m) (cond t (place_or o) (refused NoSuchKey))
finds_letter m k true o = finds m k o
finds_letter m k false o = kept (find k) true _ refl refl

asks_find : (m : MarkedForm) (ks : List Key) (k : SoughtOf) → Outcome (world true m) (find k) (world true m) (find_answer k ks)
asks_find m ks (by_position n) = finds m (by_position n) (first_key (position n) ks)
asks_find m ks (by_letter c) = finds_letter m (by_letter c) (scalar c) (first_key (letter c) ks)
asks_find m ks (by_long x) = finds m (by_long x) (first_key (long x) ks)

outcome_at : (look : Form → Form) (b : Bool) (m : MarkedForm) (c : CallOf) → Outcome (world b m) c (after (world b m) c) (answer look (world b m) c)
outcome_at look true m (enter r) = kept (enter r) true not_now refl refl
outcome_at look true m (alter k r) = kept (alter k r) true not_now refl refl
outcome_at look true m unmade = kept unmade true not_now refl refl
outcome_at look true m (strike k) = kept (strike k) true not_now refl refl
outcome_at look true m (attach k l x) = kept (attach k l x) true not_now refl refl
outcome_at look true m (set s) = kept (set s) true not_now refl refl
outcome_at look true m build = kept build true not_now refl refl
outcome_at look true m reopen = kept reopen false done refl refl
outcome_at look true m (report room) = let bs = breaches (look (form_of m)) in reports m room (ltb room (length bs)) (length bs) bs
outcome_at look true m first = kept first true _ refl refl
outcome_at look true m (find k) = asks_find m (keys_of (look (form_of m))) k
outcome_at look false m (enter r) = enters m r (not (good_names r)) (not (good_letters r)) (full m r) (ltb 60000 m.next)
outcome_at look false m (alter k r) = alters m k r (alter_answer m k r)
outcome_at look false m unmade = kept unmade false _ refl refl
outcome_at look false m (strike k) = strikes m k (marked m k)
outcome_at look false m (attach k l x) = attaches m k l x (attach_answer m k l x)
outcome_at look false m (set s) = settled s
outcome_at look false m build = kept build true done refl refl
outcome_at look false m reopen = kept reopen false not_now refl refl
outcome_at look false m (report room) = kept (report room) false not_now refl refl
outcome_at look false m first = kept first false not_now refl refl
outcome_at look false m (find k) = kept (find k) false not_now refl refl

pub outcome : (look : Form → Form) (w : World) (c : CallOf) → Outcome w c (after w c) (answer look w c)
outcome look w = outcome_at look w.built w.book
