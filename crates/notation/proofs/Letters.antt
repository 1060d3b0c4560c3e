-- The code of a letter behind U+.
use Rattle.std.proofs.Common.{◌≡◌, ℕ, ◌-◌, ◌≤◌, List, length, get_or, take, drop, Option, ap, ◌∙◌, arith, length-drop, eq-eqb, le-leb}
use Rattle.std.proofs.lemmas.List.{take_rest}
use Rattle.notation.specs.Small.{narrowed, letter_written}

pub letter_some : (s : List ℕ) (o : Option ℕ) → get_or s 0 0 ≡ 85 → get_or s 1 0 ≡ 43 → length s - 2 ≤ 8 → o ≡ narrowed 4294967296 (take (length s - 2) (drop 2 s)) → o ≡ letter_written s
letter_some s o a b short e =
    let l : length (drop 2 s) ≤ 8 = simp length-drop (omega arith) in
    e ∙ rw (eq-eqb (get_or s 0 0) 85 a, eq-eqb (get_or s 1 0) 43 b, le-leb (length (drop 2 s)) 8 l) (ap (narrowed 4294967296) (take_rest s 2))
