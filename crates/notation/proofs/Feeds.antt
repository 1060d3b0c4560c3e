-- The lines of a text that is split at its first line feed.
use Rattle.std.proofs.Common.{◌≡◌, ℕ, suc, ◌<◌, List, [], ◌∷◌, ◌++◌, ◌⊎◌, length, refl, ap, sym, subst, ◌∙◌, inl, inr, arith, ne_eqb}
use Rattle.notation.specs.Lines.{NoFeed, Split, onto, lines_of}

ended : (line rest : List ℕ) → NoFeed line → lines_of (line ++ (10 ∷ rest)) ≡ line ∷ lines_of rest
ended [] rest h = refl
ended (c ∷ cs) rest h = rw (ne_eqb c 10 (h 0)) (ap (onto c) (ended cs rest (λ k. h (suc k))))

last : (c : ℕ) (cs : List ℕ) → NoFeed (c ∷ cs) → lines_of (c ∷ cs) ≡ (c ∷ cs) ∷ []
last c [] h = rw (ne_eqb c 10 (h 0)) refl
last c (d ∷ ds) h = rw (ne_eqb c 10 (h 0)) (ap (onto c) (last d ds (λ k. h (suc k))))

cut : (s line rest : List ℕ) → 0 < length s → NoFeed line → (s ≡ line ++ (10 ∷ rest)) ⊎ ((s ≡ line) × (rest ≡ [])) → lines_of s ≡ line ∷ lines_of rest
cut s line rest some h (inl e) = ap lines_of e ∙ ended line rest h
cut [] line rest some h (inr e) = absurd (omega arith)
cut (c ∷ cs) line rest some h (inr e) =
    last c cs (subst NoFeed (sym e.0) h) ∙ ap (λ l. l ∷ []) e.0 ∙ ap (λ r. line ∷ lines_of r) (sym e.1)

pub lines_split : (s line rest : List ℕ) → Split s line rest → 0 < length s → lines_of s ≡ line ∷ lines_of rest
lines_split s line rest h some = cut s line rest some h.whole h.parts
