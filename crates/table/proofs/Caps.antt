-- Counts that stop at the largest number, and the limit on items.
use Rattle.std.proofs.Common.{◌≡◌, ℕ, zero, suc, ◌+◌, ◌<◌, ◌≤◌, min, Bool, true, false, ◌&&◌, leb, List, [], ◌∷◌, map, length, get_or, take, sym, refl, ap, ◌∙◌, add-one, arith, le-leb, leb-false, leb-true}
use borrow.Author.Tests.{lt-leb}
use Rattle.std.proofs.lemmas.List.{length-map}
use Rattle.form.specs.Limits.{arg_items, group_items, subcommand_items, summed}
use Rattle.table.specs.Capped.{capped}
use Rattle.table.specs.Entries.{arg_of, group_of, subcommand_of}
use Rattle.table.specs.Tables.{form_of, within}
use Rattle.table.specs.declared.rows.ArgRow.{ArgRow}
use Rattle.table.specs.declared.rows.GroupRow.{GroupRow}
use Rattle.table.specs.declared.rows.SubcommandRow.{SubcommandRow}

pub capped_sum : (r s t m n : ℕ) → s ≡ capped m → t ≡ capped n → r ≡ min (s + t) 18446744073709551615 → r ≡ capped (m + n)
capped_sum r s t m n e f h = omega arith

summed_suc : {X : Type 0} (size : X → ℕ) (xs : List X) (i : ℕ) (x : X) → i < length xs → x ≡ get_or xs i x → summed size (take (suc i) xs) ≡ summed size (take i xs) + size x
unfolding summed
summed_suc size [] i x lt at = absurd (omega arith)
summed_suc size (y ∷ xs) zero x lt at = omega (arith, ap size at)
summed_suc size (y ∷ xs) (suc i) x lt at = omega (arith, summed_suc size xs i x (omega arith) at)

pub summed_more : {X : Type 0} (size : X → ℕ) (xs : List X) (i : ℕ) (x : X) → i < length xs → x ≡ get_or xs i x → summed size (take (i + 1) xs) ≡ summed size (take i xs) + size x
summed_more size xs i x lt at = ap (λ n. summed size (take n xs)) (add-one i) ∙ summed_suc size xs i x lt at

summed_map : {X Y : Type 0} (size : Y → ℕ) (f : X → Y) (xs : List X) → summed size (map f xs) ≡ summed (λ x. size (f x)) xs
unfolding summed
summed_map size f [] = refl
summed_map size f (x ∷ xs) = ap (λ n. size (f x) + n) (summed_map size f xs)

-- within, in terms of the rows
pub within_rows : (n : ℕ) (args : List ArgRow) (groups : List GroupRow) (subcommands : List SubcommandRow)
    → within (form_of n args groups subcommands)
    ≡ (leb (length args) 80 && (leb (length groups) 16 && (leb (length subcommands) 32
    && leb (summed (λ r. arg_items (arg_of r)) args + (summed (λ r. group_items (group_of r)) groups + summed (λ r. subcommand_items (subcommand_of r)) subcommands)) 1024)))
within_rows n args groups subcommands =
    rw (
      length-map args arg_of,
      length-map groups group_of,
      length-map subcommands subcommand_of,
      summed_map arg_items arg_of args,
      summed_map group_items group_of groups,
      summed_map subcommand_items subcommand_of subcommands,
    )

pub same_leb : (a b : ℕ) → a ≡ capped b → leb a 1024 ≡ leb b 1024
same_leb a b e = go (leb b 1024) refl where
  go : (t : Bool) → leb b 1024 ≡ t → leb a 1024 ≡ leb b 1024
  go true h = le-leb a 1024 (omega (arith, leb-true b 1024 h)) ∙ sym h
  go false h = lt-leb a 1024 (omega (arith, leb-false b 1024 h)) ∙ sym h

-- no table too long: the items decide
pub items_decide : (a g s : ℕ) (t : Bool) → a ≤ 80 → g ≤ 16 → s ≤ 32 → t ≡ (leb a 80 && (leb g 16 && (leb s 32 && t)))
items_decide a g s t x y z = rw (le-leb a 80 x, le-leb g 16 y, le-leb s 32 z)

-- the code's count of items, in the form's terms
pub items_counted : (r s t u v x y z : ℕ) → s ≡ capped x → t ≡ capped y → u ≡ capped z
    → v ≡ min (s + t) 18446744073709551615 → r ≡ min (v + u) 18446744073709551615 → leb r 1024 ≡ leb (x + (y + z)) 1024
items_counted r s t u v x y z a b c d e =
    same_leb r (x + (y + z)) (capped_sum r v u (x + y) z (capped_sum v s t x y a b d) c e ∙ ap capped (let h : (x + y) + z ≡ x + (y + z) = omega arith in h))
