-- What the answers of the code stand for.
use Rattle.std.specs.Prelude.{ℕ, Bool, true, false, Ok, Err, vec_items, Result}
use Rattle.form.specs.Model.{Form}
use Rattle.form.specs.declared.refusal.Refusal.{Refusal}
use Rattle.calls.specs.Runs.{CallOf, enter, alter, unmade, strike, attach, set, build, reopen, report, first, find, open_answer, built_answer, mark_given, done, refused, too_short, listed, first_told, place_found, not_now}
use Rattle.calls.specs.Runs as runs
use Rattle.calls.specs.Marked.{MarkedForm}
use Rattle.replay.specs.declared.answer.Answer.{Answer}
use Rattle.replay.specs.declared.answer.Answer.TheVariants.{Mark, Done, Refused, ListShort, Listed, First, Place, NotNow}

abbrev pub said : Answer → runs.Answer
said (Mark n) = mark_given n
said Done = done
said (Refused e) = refused e
said (ListShort n) = too_short n
said (Listed v) = listed (vec_items v)
said (First b) = first_told b
said (Place p) = place_found p
said NotNow = not_now

-- the answer of a call that may be refused
abbrev pub said_or : Result Answer Refusal → runs.Answer
said_or (Ok a) = said a
said_or (Err e) = refused e

-- what a find answers
abbrev pub placed_or : Result ℕ Refusal → runs.Answer
placed_or (Ok p) = place_found p
placed_or (Err e) = refused e

-- what a built book answers, but for reopen, which makes it another book
abbrev pub asked_answer : Form → CallOf → runs.Answer
asked_answer f (enter r) = not_now
asked_answer f (alter k r) = not_now
asked_answer f unmade = not_now
asked_answer f (strike k) = not_now
asked_answer f (attach k l x) = not_now
asked_answer f (set s) = not_now
asked_answer f build = not_now
asked_answer f reopen = not_now
asked_answer f (report room) = built_answer f (report room)
asked_answer f first = built_answer f first
asked_answer f (find k) = built_answer f (find k)

-- what an open book answers, but for build, which makes it another book
abbrev pub changed_answer : MarkedForm → CallOf → runs.Answer
changed_answer m (enter r) = open_answer m (enter r)
changed_answer m (alter k r) = open_answer m (alter k r)
changed_answer m unmade = open_answer m unmade
changed_answer m (strike k) = open_answer m (strike k)
changed_answer m (attach k l x) = open_answer m (attach k l x)
changed_answer m (set s) = open_answer m (set s)
changed_answer m build = not_now
changed_answer m reopen = not_now
changed_answer m (report room) = not_now
changed_answer m first = not_now
changed_answer m (find k) = not_now

-- the call asks for a report
abbrev pub asks_report : CallOf → Bool
asks_report (enter r) = false
asks_report (alter k r) = false
asks_report unmade = false
asks_report (strike k) = false
asks_report (attach k l x) = false
asks_report (set s) = false
asks_report build = false
asks_report reopen = false
asks_report (report room) = true
asks_report first = false
asks_report (find k) = false
