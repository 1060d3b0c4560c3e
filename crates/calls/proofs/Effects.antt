-- What a call does to the entries: none is touched, or those of one mark at most.
use Rattle.std.proofs.Common.{◌≡◌, ℕ, Some, None, Option, sym, refl, ap}
use Rattle.form.specs.Lists.{list_numbered}
use Rattle.form.specs.declared.lists.EntryKind.{EntryKind}
use Rattle.form.specs.declared.lists.EntryKind.TheVariants.{Argument, Group, Subcommand}
use Rattle.form.specs.declared.lists.ItemList.{ItemList}
use Rattle.calls.specs.Marked.{Marked, MarkedForm, ItemOf, Row, names_in, letters_in}
use Rattle.calls.specs.Calls.{RecordOf, argument, group, subcommand, kept, added, changed, removed, with_row}
use Rattle.calls.specs.Runs.{CallOf, Answer, World}
use Rattle.calls.specs.Law.{Touches}
use Rattle.calls.proofs.Tables.{Any, Other, Keeps, here, keeps_all, keeps_added, keeps_before, keeps_replaced, keeps_replaced_back, kept_to, kept_from, unlike, keeps_without, keeps_without_back}
use Rattle.calls.proofs.Items.{names_added, names_without, letters_added, letters_without}
use Rattle.calls.proofs.Carrying.{Carries}
use Rattle.calls.proofs.Outcomes as outcome
use Rattle.calls.proofs.Outcomes.{Outcome}

-- n is m but for the entries of one mark
pub record But (x : ℕ) (m n : MarkedForm) : Type 0 where
  pub on : Carries (Other x) m n
  pub back : Carries (Other x) n m

pub data Effect (m n : MarkedForm) (c : CallOf) (a : Answer) : Type 0 where
  still : Carries Any m n → Carries Any n m → Effect m n c a
  touched : (x : ℕ) → Touches c a x → But x m n → Effect m n c a

-- where places and rows stay
stay : {free : ℕ → Type 0} {m n : MarkedForm} → Keeps free m.args n.args here → Keeps free m.groups n.groups here → Keeps free m.subcommands n.subcommands here
    → m.rows ≡ n.rows → Carries free m n
stay {m} {n} a g s e = record {
  to = λ kind. here;
  args = a;
  groups = g;
  subcommands = s;
  names = λ k l u. ap (names_in k l) e;
  letters = λ k l u. ap (letters_in k l) e;
}

entering : (m : MarkedForm) (r : RecordOf) → But m.next m (added m r)
entering m (argument r) = let d : Marked _ = record { mark = m.next; of = kept r } in record {
  on = stay (keeps_added m.args d) (keeps_all m.groups) (keeps_all m.subcommands) refl;
  back = stay (keeps_before m.args d) (keeps_all m.groups) (keeps_all m.subcommands) refl;
}
entering m (group x) = let d : Marked _ = record { mark = m.next; of = x } in record {
  on = stay (keeps_all m.args) (keeps_added m.groups d) (keeps_all m.subcommands) refl;
  back = stay (keeps_all m.args) (keeps_before m.groups d) (keeps_all m.subcommands) refl;
}
entering m (subcommand r) = let d : Marked _ = record { mark = m.next; of = r } in record {
  on = stay (keeps_all m.args) (keeps_all m.groups) (keeps_added m.subcommands d) refl;
  back = stay (keeps_all m.args) (keeps_all m.groups) (keeps_before m.subcommands d) refl;
}

altering : (m : MarkedForm) (k : ℕ) (r : RecordOf) → But k m (changed m k r)
altering m k (argument r) = record {
  on = stay (keeps_replaced k (kept r) m.args) (keeps_all m.groups) (keeps_all m.subcommands) refl;
  back = stay (keeps_replaced_back k (kept r) m.args) (keeps_all m.groups) (keeps_all m.subcommands) refl;
}
altering m k (group x) = record {
  on = stay (keeps_all m.args) (keeps_replaced k x m.groups) (keeps_all m.subcommands) refl;
  back = stay (keeps_all m.args) (keeps_replaced_back k x m.groups) (keeps_all m.subcommands) refl;
}
altering m k (subcommand r) = record {
  on = stay (keeps_all m.args) (keeps_all m.groups) (keeps_replaced k r m.subcommands) refl;
  back = stay (keeps_all m.args) (keeps_all m.groups) (keeps_replaced_back k r m.subcommands) refl;
}

abbrev closed_up : MarkedForm → ℕ → EntryKind → ℕ → ℕ
closed_up m k Argument = kept_to (unlike k) m.args
closed_up m k Group = kept_to (unlike k) m.groups
closed_up m k Subcommand = kept_to (unlike k) m.subcommands

abbrev opened_up : MarkedForm → ℕ → EntryKind → ℕ → ℕ
opened_up m k Argument = kept_from (unlike k) m.args
opened_up m k Group = kept_from (unlike k) m.groups
opened_up m k Subcommand = kept_from (unlike k) m.subcommands

striking : (m : MarkedForm) (k : ℕ) → But k m (removed m k)
striking m k = record {
  on = record {
    to = closed_up m k;
    args = keeps_without k m.args;
    groups = keeps_without k m.groups;
    subcommands = keeps_without k m.subcommands;
    names = λ j l u. sym (names_without k j l u m.rows);
    letters = λ j l u. sym (letters_without k j l u m.rows);
  };
  back = record {
    to = opened_up m k;
    args = keeps_without_back k m.args;
    groups = keeps_without_back k m.groups;
    subcommands = keeps_without_back k m.subcommands;
    names = λ j l u. names_without k j l u m.rows;
    letters = λ j l u. letters_without k j l u m.rows;
  };
}

same : {free : ℕ → Type 0} (m : MarkedForm) → Carries free m m
same m = stay (keeps_all m.args) (keeps_all m.groups) (keeps_all m.subcommands) refl

attaching : (m : MarkedForm) (k : ℕ) (l : Option ItemList) (x : ItemOf) → But k m (with_row m k l x)
attaching m k None x = record { on = same m; back = same m }
attaching m k (Some l) x = let r : Row = record { owner = k; list = l; item = x } in record {
  on = record {
    to = λ kind. here;
    args = keeps_all m.args;
    groups = keeps_all m.groups;
    subcommands = keeps_all m.subcommands;
    names = λ j i u. sym (names_added k j i u m.rows r refl);
    letters = λ j i u. sym (letters_added k j i u m.rows r refl);
  };
  back = record {
    to = λ kind. here;
    args = keeps_all m.args;
    groups = keeps_all m.groups;
    subcommands = keeps_all m.subcommands;
    names = λ j i u. names_added k j i u m.rows r refl;
    letters = λ j i u. letters_added k j i u m.rows r refl;
  };
}

pub effect : {w v : World} {c : CallOf} {a : Answer} → Outcome w c v a → Effect w.book v.book c a
effect {w} (outcome.entered r) = touched w.book.next refl (entering w.book r)
effect {w} (outcome.altered k r) = touched k (refl, refl) (altering w.book k r)
effect {w} (outcome.struck k) = touched k (refl, refl) (striking w.book k)
effect {w} (outcome.attached k l x) = touched k (refl, refl) (attaching w.book k (list_numbered l) x)
effect {w} (outcome.settled s) =
    let m = w.book in
    still (stay (keeps_all m.args) (keeps_all m.groups) (keeps_all m.subcommands) refl) (stay (keeps_all m.args) (keeps_all m.groups) (keeps_all m.subcommands) refl)
effect {w} (outcome.kept c b a g e) = still (same w.book) (same w.book)
