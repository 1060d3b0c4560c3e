-- What the small types need: ranges that accept one number, and names of a good length.
use Rattle.std.proofs.Common.{◌≡◌, ℕ, ◌≤◌, List, length, Ok, sym, ◌∙◌, arith, le-ltb, ne_eqb}
use Rattle.form.specs.Model.{Range}
use Rattle.form.specs.Ranges.{Only}
use Rattle.form.specs.Names.{name_of}

pub fixed_only : (r : Range) → r.least ≡ r.most → Only r r.least
fixed_only r e = ((omega arith, omega arith), λ m a. omega (arith, a.0, a.1))

pub only_fixed : (r : Range) (n : ℕ) → r.least ≤ r.most → Only r n → r.least ≡ r.most
only_fixed r n le o = o.1 r.least (omega arith, le) ∙ sym (o.1 r.most (le, omega arith))

pub name_taken : (s : List ℕ) → (length s ≡ 0 → ⊥) → length s ≤ 32 → name_of s ≡ Ok s
name_taken s some few = rw (ne_eqb (length s) 0 some, le-ltb 32 (length s) few)
