-- The rows of one mark do not change where a row of another comes or goes.
use Rattle.std.proofs.Common.{◌≡◌, ℕ, Bool, true, false, cond, not, eqb, List, [], ◌∷◌, ◌++◌, sym, refl, ap, ◌∙◌}
use Rattle.std.proofs.lemmas.Bool.{eqb-true, ne_eqb, and_left}
use Rattle.form.specs.Model.{Name}
use Rattle.form.specs.Lists.{list_number}
use Rattle.form.specs.declared.lists.ItemList.{ItemList}
use Rattle.calls.specs.Marked.{Row, is_of, with_name, with_letter, names_in, letters_in}
use Rattle.calls.specs.Calls.{rows_without}
use Rattle.calls.proofs.Tables.{Other}

-- what is read off the rows, where a row of the owner x does not count
module _ {Y : Type 0} (x : ℕ) (read : List Row → Y)
    (skip : (r : Row) (rs : List Row) → r.owner ≡ x → read (r ∷ rs) ≡ read rs)
    (next : (r : Row) (rs ss : List Row) → read rs ≡ read ss → read (r ∷ rs) ≡ read (r ∷ ss)) where
  read_added : (rs : List Row) (r : Row) → r.owner ≡ x → read (rs ++ r ∷ []) ≡ read rs
  read_added [] r e = skip r [] e
  read_added (s ∷ rs) r e = next s (rs ++ r ∷ []) rs (read_added rs r e)

  one_less : (r : Row) (rs ss : List Row) (t : Bool) → eqb r.owner x ≡ t → read ss ≡ read rs → read (cond (not t) (r ∷ ss) ss) ≡ read (r ∷ rs)
  one_less r rs ss true e h = h ∙ sym (skip r rs (eqb-true r.owner x e))
  one_less r rs ss false e h = next r ss rs h

  read_without : (rs : List Row) → read (rows_without x rs) ≡ read rs
  read_without [] = refl
  read_without (r ∷ rs) = one_less r rs (rows_without x rs) (eqb r.owner x) refl (read_without rs)

module _ (x k : ℕ) (l : ItemList) (other : Other x k) where
  not_of : (r : Row) → r.owner ≡ x → is_of k l r ≡ false
  not_of r e = and_left (eqb r.owner k) (eqb (list_number r.list) (list_number l)) (ne_eqb r.owner k (λ h. other (sym h ∙ e)))

  skip_name : (r : Row) (rs : List Row) → r.owner ≡ x → names_in k l (r ∷ rs) ≡ names_in k l rs
  unfolding names_in
  skip_name r rs e = rw (not_of r e)

  next_name : (r : Row) (rs ss : List Row) → names_in k l rs ≡ names_in k l ss → names_in k l (r ∷ rs) ≡ names_in k l (r ∷ ss)
  unfolding names_in
  next_name r rs ss = ap (λ (xs : List Name). cond (is_of k l r) (with_name r.item xs) xs)

  skip_letter : (r : Row) (rs : List Row) → r.owner ≡ x → letters_in k l (r ∷ rs) ≡ letters_in k l rs
  unfolding letters_in
  skip_letter r rs e = rw (not_of r e)

  next_letter : (r : Row) (rs ss : List Row) → letters_in k l rs ≡ letters_in k l ss → letters_in k l (r ∷ rs) ≡ letters_in k l (r ∷ ss)
  unfolding letters_in
  next_letter r rs ss = ap (λ (xs : List ℕ). cond (is_of k l r) (with_letter r.item xs) xs)

  pub names_added : (rs : List Row) (r : Row) → r.owner ≡ x → names_in k l (rs ++ r ∷ []) ≡ names_in k l rs
  names_added = read_added x (names_in k l) skip_name next_name

  pub names_without : (rs : List Row) → names_in k l (rows_without x rs) ≡ names_in k l rs
  names_without = read_without x (names_in k l) skip_name next_name

  pub letters_added : (rs : List Row) (r : Row) → r.owner ≡ x → letters_in k l (rs ++ r ∷ []) ≡ letters_in k l rs
  letters_added = read_added x (letters_in k l) skip_letter next_letter

  pub letters_without : (rs : List Row) → letters_in k l (rows_without x rs) ≡ letters_in k l rs
  letters_without = read_without x (letters_in k l) skip_letter next_letter
