-- Attaching, over the marked form.
use Rattle.std.proofs.Common.{◌≡◌, ℕ, Bool, true, false, cond, leb, List, [], ◌∷◌, ◌++◌, map, length, None, Some, Option, Ok, Err, sym, refl, ap, ◌∙◌, arith, is_ok}
use Rattle.std.specs.Option.{ok_or}
use Rattle.std.proofs.lemmas.List.{map_push}
use Rattle.form.specs.Lists.{list_numbered}
use Rattle.form.specs.declared.lists.ItemList.{ItemList}
use Rattle.form.specs.declared.refusal.Refusal.{Refusal}
use Rattle.form.specs.declared.refusal.Refusal.TheVariants.{RowsTaken}
use Rattle.calls.specs.Marked.{ItemOf, Row, MarkedForm}
use Rattle.calls.specs.Calls.{marked, takes, good_item, item_refusal, attach_answer, with_row, attached}
use Rattle.book_tables.specs.declared.held.ItemRow.{ItemRow}
use Rattle.book_tables.specs.Held.{row_held}
use Rattle.book_tables.specs.Taken.{good_or, item_taken}

-- what is taken is what is given, and it is good
good_taken : {X : Type 0} (t : Bool) (x y : X) (e : Refusal) → Ok y ≡ good_or t x e → (t ≡ true) × (y ≡ x)
good_taken true x y e is = (refl, cc)
good_taken false x y e is = absurd (let z : ◌≡◌ {A = ℕ} 0 1 = cc in omega arith)

-- all that a call of attach has found good before it looks for a row
pub record Attachable (m : MarkedForm) (k n : ℕ) (l : ItemList) (x y : ItemOf) : Type 0 where
  pub has : true ≡ marked m k
  pub list : Some l ≡ list_numbered n
  pub fits : true ≡ takes m k (Some l) x
  pub taken : Ok y ≡ item_taken x

-- a list that is found has the number
pub list_found : {E : Type 0} (o : Option ItemList) (e : E) (l : ItemList) → Ok l ≡ ok_or o e → Some l ≡ o
list_found None e l is = absurd (let z : ◌≡◌ {A = ℕ} 0 1 = cc in omega arith)
list_found (Some k) e l is = let h : l ≡ k = cc in ap Some h

bad_taken : {X : Type 0} (t : Bool) (x : X) (e d : Refusal) → Err e ≡ good_or t x d → (t ≡ false) × (e ≡ d)
bad_taken true x e d is = absurd (let z : ◌≡◌ {A = ℕ} 0 1 = cc in omega arith)
bad_taken false x e d is = (refl, cc)

-- an item that is not taken is refused once its list is found good
pub attach_bad : (m : MarkedForm) (k n : ℕ) (l : ItemList) (x : ItemOf) (e : Refusal) → true ≡ marked m k → Some l ≡ list_numbered n → true ≡ takes m k (Some l) x → Err e ≡ item_taken x
    → (Err e ≡ attach_answer m k n x) × (m ≡ attached m k n x)
attach_bad m k n l x e has list fits is =
    let bad = bad_taken (good_item x) x e (item_refusal x) is in
    rw (bad.1, sym has, sym list, sym fits, bad.0) (refl, refl)

-- the row is added where there is room
pub attach_ended : (m : MarkedForm) (rows : List Row) (k n : ℕ) (l : ItemList) (x y : ItemOf) → Attachable m k n l x y
    → rows ≡ cond (leb 512 (length m.rows)) m.rows (m.rows ++ (record { owner = k; list = l; item = y } ∷ []))
    → (cond (leb 512 (length m.rows)) (Err RowsTaken) (Ok tt) ≡ attach_answer m k n x)
    × (record { settings = m.settings; args = m.args; groups = m.groups; subcommands = m.subcommands; rows = rows; next = m.next } ≡ attached m k n x)
attach_ended m rows k n l x y a more =
    let good = good_taken (good_item x) x y (item_refusal x) a.taken in
    rw (more, good.1, sym a.has, sym a.list, sym a.fits, good.0) (refl, go (leb 512 (length m.rows)))
  where
    go : (t : Bool) → record { settings = m.settings; args = m.args; groups = m.groups; subcommands = m.subcommands; rows = cond t m.rows (m.rows ++ (record { owner = k; list = l; item = x } ∷ [])); next = m.next }
        ≡ cond (is_ok (cond t (Err RowsTaken) (Ok (tt {0})))) (with_row m k (Some l) x) m
    go true = refl
    go false = refl

pub rows_pushed : (t : Bool) (rs more : List ItemRow) (r : ItemRow) → more ≡ cond t rs (rs ++ r ∷ []) → map row_held more ≡ cond t (map row_held rs) (map row_held rs ++ row_held r ∷ [])
rows_pushed true rs more r is = ap (map row_held) is
rows_pushed false rs more r is = ap (map row_held) is ∙ map_push row_held rs r
