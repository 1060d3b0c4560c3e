-- A run of calls on one book: what each call answers, and the book after it.
use Rattle.std.specs.Prelude.{ℕ, Bool, true, false, cond, List, [], ◌∷◌, length, Some, None, Ok, Err, Option, Result, nat_lt}
use Rattle.form.specs.Model.{Name, Form}
use Rattle.form.specs.Names.{scalar}
use Rattle.form.specs.Keys.{position, letter, long, Key, keys_of, first_key}
use Rattle.form.specs.declared.refusal.Refusal.{Refusal}
use Rattle.form.specs.declared.refusal.Refusal.TheVariants.{RangeOrder, NoSuchKey}
use Rattle.rules.specs.declared.breach.Breach.{Breach}
use Rattle.rules.specs.Report.{breaches}
use Rattle.calls.specs.Marked.{MarkedForm, ItemOf, blank, form_of}
use Rattle.calls.specs.Calls.{RecordOf, enter_answer, entered, alter_answer, altered, strike_answer, struck, attach_answer, attached, with_settings}

-- What find seeks: a position, a letter given as 32 bits, or bytes.
pub data SoughtOf : Type 0 where
  by_position : ℕ → SoughtOf
  by_letter : ℕ → SoughtOf
  by_long : Name → SoughtOf

-- A call with its arguments. A report is asked with the room of its list. An enter or alter whose range was refused when it was made is `unmade`.
pub data CallOf : Type 0 where
  enter : RecordOf → CallOf
  alter : ℕ → RecordOf → CallOf
  unmade : CallOf
  strike : ℕ → CallOf
  attach : ℕ → ℕ → ItemOf → CallOf
  set : ℕ → CallOf
  build : CallOf
  reopen : CallOf
  report : ℕ → CallOf
  first : CallOf
  find : SoughtOf → CallOf

-- What a call answers.
pub data Answer : Type 0 where
  -- the mark of the entry that was entered
  mark_given : ℕ → Answer
  done : Answer
  refused : Refusal → Answer
  -- refused with 109, and the number of breaches
  too_short : ℕ → Answer
  -- a report, with what it listed
  listed : List Breach → Answer
  first_told : Option Breach → Answer
  place_found : ℕ → Answer
  -- the book is open and the call is one of a built book, or the other way round
  not_now : Answer

-- a book, open or built
pub record World : Type 0 where
  pub built : Bool
  pub book : MarkedForm

-- a new book is open and empty
abbrev pub start : World
start = record { built = false; book = blank }

abbrev pub mark_or : Result ℕ Refusal → Answer
mark_or (Ok n) = mark_given n
mark_or (Err e) = refused e

abbrev pub done_or : Result Unit Refusal → Answer
done_or (Ok u) = done
done_or (Err e) = refused e

abbrev pub place_or : Option ℕ → Answer
place_or None = refused NoSuchKey
place_or (Some p) = place_found p

-- a letter that is no scalar value is no key's
abbrev pub find_answer : SoughtOf → List Key → Answer
find_answer (by_position n) ks = place_or (first_key (position n) ks)
find_answer (by_letter c) ks = cond (scalar c) (place_or (first_key (letter c) ks)) (refused NoSuchKey)
find_answer (by_long x) ks = place_or (first_key (long x) ks)

abbrev pub head_of : List Breach → Option Breach
head_of [] = None
head_of (b ∷ bs) = Some b

-- a report into a list of this room
abbrev pub listed_or : ℕ → List Breach → Answer
listed_or room bs = cond (nat_lt room (length bs)) (too_short (length bs)) (listed bs)

-- What an open book answers.
abbrev pub open_answer : MarkedForm → CallOf → Answer
open_answer m (enter r) = mark_or (enter_answer m r)
open_answer m (alter k r) = done_or (alter_answer m k r)
open_answer m unmade = refused RangeOrder
open_answer m (strike k) = done_or (strike_answer m k)
open_answer m (attach k l x) = done_or (attach_answer m k l x)
open_answer m (set s) = done
open_answer m build = done
open_answer m reopen = not_now
open_answer m (report room) = not_now
open_answer m first = not_now
open_answer m (find k) = not_now

-- What a built book answers, asked about the form f: its own, or its own under layers.
abbrev pub built_answer : Form → CallOf → Answer
built_answer f (enter r) = not_now
built_answer f (alter k r) = not_now
built_answer f unmade = not_now
built_answer f (strike k) = not_now
built_answer f (attach k l x) = not_now
built_answer f (set s) = not_now
built_answer f build = not_now
built_answer f reopen = done
built_answer f (report room) = listed_or room (breaches f)
built_answer f first = first_told (head_of (breaches f))
built_answer f (find k) = find_answer k (keys_of f)

-- What the book answers; `look` is the form that is asked about, made from the book's own: that form itself, or with layers over it.
abbrev pub answer : (Form → Form) → World → CallOf → Answer
answer look w c = cond w.built (built_answer (look (form_of w.book)) c) (open_answer w.book c)

-- the marked form after a call on an open book
abbrev pub open_after : MarkedForm → CallOf → MarkedForm
open_after m (enter r) = entered m r
open_after m (alter k r) = altered m k r
open_after m unmade = m
open_after m (strike k) = struck m k
open_after m (attach k l x) = attached m k l x
open_after m (set s) = with_settings m s
open_after m build = m
open_after m reopen = m
open_after m (report room) = m
open_after m first = m
open_after m (find k) = m

-- whether the book is built after a call
abbrev pub built_after : Bool → CallOf → Bool
built_after b (enter r) = b
built_after b (alter k r) = b
built_after b unmade = b
built_after b (strike k) = b
built_after b (attach k l x) = b
built_after b (set s) = b
built_after b build = true
built_after b reopen = false
built_after b (report room) = b
built_after b first = b
built_after b (find k) = b

-- the book after a call
abbrev pub after : World → CallOf → World
after w c = record { built = built_after w.built c; book = cond w.built w.book (open_after w.book c) }

-- the answers of a run
unfoldable pub answers : (Form → Form) → World → List CallOf → List Answer
answers look w [] = []
answers look w (c ∷ cs) = answer look w c ∷ answers look (after w c) cs

-- the form of the book itself
abbrev pub plain : Form → Form
plain f = f
