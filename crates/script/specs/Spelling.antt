-- How a name is spelled in a script: its bytes as they are, and `\xHH` for any byte.
use Rattle.std.specs.Prelude.{◌≡◌, ℕ, ◌+◌, ◌*◌, ◌<◌, Bool, cond, ◌&&◌, List, [], ◌∷◌, length, Some, None, Option, ◌==◌, nat_lt}
use Rattle.notation.specs.Digits.{digit_value}

-- a byte before the others
abbrev pub before : ℕ → Option (List ℕ) → Option (List ℕ)
before c None = None
before c (Some cs) = Some (c ∷ cs)

-- behind a backslash: x (code 120) and two hexadecimal digits are one byte, and nothing else is
abbrev pub is_byte : ℕ → ℕ → ℕ → Bool
is_byte x h l = x == 120 && (nat_lt (digit_value h) 16 && nat_lt (digit_value l) 16)

abbrev pub byte_of : ℕ → ℕ → ℕ
byte_of h l = digit_value h * 16 + digit_value l

-- the bytes that a text spells; none where a backslash (code 92) begins no byte
unfoldable pub spelled : List ℕ → Option (List ℕ)
spelled [] = Some []
spelled (c ∷ []) = cond (c == 92) None (before c (spelled []))
spelled (c ∷ (x ∷ [])) = cond (c == 92) None (before c (spelled (x ∷ [])))
spelled (c ∷ (x ∷ (h ∷ []))) = cond (c == 92) None (before c (spelled (x ∷ (h ∷ []))))
spelled (c ∷ (x ∷ (h ∷ (l ∷ rest)))) =
    cond (c == 92)
    (cond (is_byte x h l) (before (byte_of h l) (spelled rest)) None)
    (before c (spelled (x ∷ (h ∷ (l ∷ rest)))))

-- the first byte that a text spells, and the rest, which is shorter; none where the text is empty or spells nothing
abbrev pub FirstByte : List ℕ → Option (ℕ × List ℕ) → Type 0
FirstByte s None = 0 < length s → spelled s ≡ None
FirstByte s (Some p) = (spelled s ≡ before p.0 (spelled p.1)) × (length p.1 < length s)
