-- What is taken of a record that is given, and why the others are refused: first every name, then the letters.
use Rattle.std.specs.Prelude.{ℕ, Bool, cond, not, Ok, Err, Option, Result}
use Rattle.form.specs.Model.{Name}
use Rattle.form.specs.Names.{scalar}
use Rattle.form.specs.Shown.{ArgRecord, SubcommandRecord}
use Rattle.form.specs.declared.refusal.Refusal.{Refusal}
use Rattle.form.specs.declared.refusal.Refusal.TheVariants.{NameLength, NoScalar}
use Rattle.calls.specs.Marked.{ItemOf}
use Rattle.calls.specs.Calls.{RecordOf, argument, subcommand, good_name, good_if, good_names, good_letters, good_item, item_refusal, kept}

-- what is in an Ok, seen otherwise
abbrev pub within_ok : {X Y E : Type 0} → (X → Y) → Result X E → Result Y E
within_ok f (Ok x) = Ok (f x)
within_ok f (Err e) = Err e

-- x where it is good, else the refusal
abbrev pub good_or : {X : Type 0} → Bool → X → Refusal → Result X Refusal
good_or good x e = cond good (Ok x) (Err e)

abbrev pub name_taken : Name → Result Name Refusal
name_taken x = good_or (good_name x) x NameLength

abbrev pub long_taken : Option Name → Result (Option Name) Refusal
long_taken x = good_or (good_if good_name x) x NameLength

abbrev pub letter_taken : Option ℕ → Result (Option ℕ) Refusal
letter_taken c = good_or (good_if scalar c) c NoScalar

abbrev pub item_taken : ItemOf → Result ItemOf Refusal
item_taken x = good_or (good_item x) x (item_refusal x)

-- x where the names and letters of what is given are good, else why not
abbrev pub all_good_or : {X : Type 0} → RecordOf → X → Result X Refusal
all_good_or r x = cond (not (good_names r)) (Err NameLength) (cond (not (good_letters r)) (Err NoScalar) (Ok x))

abbrev pub arg_taken : ArgRecord → Result ArgRecord Refusal
arg_taken r = all_good_or (argument r) (kept r)

abbrev pub subcommand_taken : SubcommandRecord → Result SubcommandRecord Refusal
subcommand_taken r = all_good_or (subcommand r) r
