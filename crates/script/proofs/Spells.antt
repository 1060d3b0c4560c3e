-- The first byte that a text spells: behind a backslash, or as it is.
use Rattle.std.proofs.Common.{◌≡◌, ℕ, zero, suc, ◌-◌, ◌<◌, ◌≤◌, Bool, true, false, cond, ◌≢◌, List, [], ◌∷◌, ◌++◌, length, get_or, take, drop, Some, None, Option, sym, refl, ap, ◌∙◌, append_assoc, append-nil, arith, length-drop, take_all, eq-eqb, ne_eqb}
use Rattle.std.specs.Option.{option_map}
use Rattle.std.proofs.lemmas.List.{take_rest}
use Rattle.script.specs.Spelling.{spelled, before, is_byte, byte_of, FirstByte}

-- what stands behind a backslash as one byte
abbrev pub escape : List ℕ → Option ℕ
escape s = cond (is_byte (get_or s 1 0) (get_or s 2 0) (get_or s 3 0)) (Some (byte_of (get_or s 2 0) (get_or s 3 0))) None

chosen : (b : Bool) (n : ℕ) (o : Option ℕ) (r : Option (List ℕ)) (k : ℕ) → o ≡ cond b (Some n) None → o ≡ Some k → cond b (before n r) None ≡ before k r
chosen true n o r k e f = let g : n ≡ k = cc in ap (λ m. before m r) g
chosen false n o r k e f = let z : ◌≡◌ {A = ℕ} 0 1 = cc in absurd (omega arith)

unchosen : (b : Bool) (n : ℕ) (o : Option ℕ) (r : Option (List ℕ)) → o ≡ cond b (Some n) None → o ≡ None → cond b (before n r) None ≡ None
unchosen true n o r e f = let z : ◌≡◌ {A = ℕ} 0 1 = cc in absurd (omega arith)
unchosen false n o r e f = refl

pub escape_some : (s : List ℕ) (o : Option ℕ) (k : ℕ) → 4 ≤ length s → get_or s 0 0 ≡ 92 → o ≡ escape s → o ≡ Some k → spelled s ≡ before k (spelled (take (length s - 4) (drop 4 s)))
unfolding spelled
escape_some [] o k h e f g = absurd (omega arith)
escape_some (c ∷ []) o k h e f g = absurd (omega arith)
escape_some (c ∷ (x ∷ [])) o k h e f g = absurd (omega arith)
escape_some (c ∷ (x ∷ (y ∷ []))) o k h e f g = absurd (omega arith)
escape_some (c ∷ (x ∷ (y ∷ (l ∷ rest)))) o k h e f g =
    rw (eq-eqb c 92 e, take_rest (c ∷ (x ∷ (y ∷ (l ∷ rest)))) 4) (chosen (is_byte x y l) _ o (spelled rest) k f g)

pub escape_none : (s : List ℕ) (o : Option ℕ) → 4 ≤ length s → get_or s 0 0 ≡ 92 → o ≡ escape s → o ≡ None → spelled s ≡ None
unfolding spelled
escape_none [] o h e f g = absurd (omega arith)
escape_none (c ∷ []) o h e f g = absurd (omega arith)
escape_none (c ∷ (x ∷ [])) o h e f g = absurd (omega arith)
escape_none (c ∷ (x ∷ (y ∷ []))) o h e f g = absurd (omega arith)
escape_none (c ∷ (x ∷ (y ∷ (l ∷ rest)))) o h e f g = rw (eq-eqb c 92 e) (unchosen (is_byte x y l) _ o (spelled rest) f g)

pub escape_short : (s : List ℕ) → length s < 4 → get_or s 0 0 ≡ 92 → 0 < length s → spelled s ≡ None
unfolding spelled
escape_short [] h e l = absurd (omega arith)
escape_short (c ∷ []) h e l = rw (eq-eqb c 92 e)
escape_short (c ∷ (x ∷ [])) h e l = rw (eq-eqb c 92 e)
escape_short (c ∷ (x ∷ (y ∷ []))) h e l = rw (eq-eqb c 92 e)
escape_short (c ∷ (x ∷ (y ∷ (z ∷ rest)))) h e l = absurd (omega arith)

plain_byte : (s : List ℕ) → 1 ≤ length s → get_or s 0 0 ≢ 92 → spelled s ≡ before (get_or s 0 0) (spelled (drop 1 s))
unfolding spelled
plain_byte [] h ne = absurd (omega arith)
plain_byte (c ∷ []) h ne = rw (ne_eqb c 92 ne)
plain_byte (c ∷ (x ∷ [])) h ne = rw (ne_eqb c 92 ne)
plain_byte (c ∷ (x ∷ (y ∷ []))) h ne = rw (ne_eqb c 92 ne)
plain_byte (c ∷ (x ∷ (y ∷ (z ∷ rest)))) h ne = rw (ne_eqb c 92 ne)

pub plain_first : (s : List ℕ) → 1 ≤ length s → get_or s 0 0 ≢ 92 → spelled s ≡ before (get_or s 0 0) (spelled (take (length s - 1) (drop 1 s)))
plain_first s h ne = rw (take_rest s 1) (plain_byte s h ne)

pub rest_shorter : (s : List ℕ) (n : ℕ) → 1 ≤ n → n ≤ length s → length (take (length s - n) (drop n s)) < length s
rest_shorter s n l h = rw (take_rest s n, length-drop n s) (omega arith)

-- A name that is held, with the rest of the text.
take_take : (n : ℕ) (ys xs : List ℕ) → take n (take n ys ++ xs) ≡ take n (ys ++ xs)
take_take zero ys xs = refl
take_take (suc n) [] xs = refl
take_take (suc n) (y ∷ ys) xs = ap (λ l. y ∷ l) (take_take n ys xs)

onto_more : (w new : List ℕ) (b : ℕ) (o : Option (List ℕ)) → new ≡ take 33 (w ++ (b ∷ [])) → option_map (λ xs. take 33 (new ++ xs)) o ≡ option_map (λ xs. take 33 (w ++ xs)) (before b o)
onto_more w new b None e = refl
onto_more w new b (Some xs) e =
    ap Some (ap (λ v. take 33 (v ++ xs)) e ∙ take_take 33 (w ++ (b ∷ [])) xs ∙ ap (take 33) (append_assoc w (b ∷ []) xs))

pub name_more : (w new rest later : List ℕ) (b : ℕ) (all : Option (List ℕ)) → spelled rest ≡ before b (spelled later) → new ≡ take 33 (w ++ (b ∷ [])) → option_map (λ xs. take 33 (w ++ xs)) (spelled rest) ≡ all → option_map (λ xs. take 33 (new ++ xs)) (spelled later) ≡ all
name_more w new rest later b all s e inv = onto_more w new b (spelled later) e ∙ ap (option_map (λ xs. take 33 (w ++ xs))) (sym s) ∙ inv

pub name_start : (w s : List ℕ) → w ≡ [] → option_map (λ xs. take 33 (w ++ xs)) (spelled s) ≡ option_map (take 33) (spelled s)
name_start w s e = ap (λ v. option_map (λ xs. take 33 (v ++ xs)) (spelled s)) e

pub name_bad : (w rest : List ℕ) (all : Option (List ℕ)) → spelled rest ≡ None → option_map (λ xs. take 33 (w ++ xs)) (spelled rest) ≡ all → None ≡ all
name_bad w rest all s inv = sym (ap (option_map (λ xs. take 33 (w ++ xs))) s) ∙ inv

nothing_more : (w : List ℕ) → length w ≤ 33 → take 33 (w ++ []) ≡ w
nothing_more w h = ap (take 33) (append-nil w) ∙ take_all 33 w h

spelled_none : (s : List ℕ) → length s ≡ 0 → spelled s ≡ Some []
unfolding spelled
spelled_none [] e = refl
spelled_none (c ∷ s) e = absurd (omega arith)

pub name_end : (w rest : List ℕ) (all : Option (List ℕ)) → length rest ≡ 0 → length w ≤ 33 → option_map (λ xs. take 33 (w ++ xs)) (spelled rest) ≡ all → Some w ≡ all
name_end w rest all e h inv = sym (ap (option_map (λ xs. take 33 (w ++ xs))) (spelled_none rest e) ∙ ap Some (nothing_more w h)) ∙ inv

pub first_none : (s : List ℕ) (o : Option (ℕ × List ℕ)) → spelled s ≡ None → o ≡ None → FirstByte s o
first_none s None e f = λ l. e
first_none s (Some p) e f = let z : ◌≡◌ {A = ℕ} 0 1 = cc in absurd (omega arith)
