-- The first place of a kind of byte, or the length.
use Rattle.std.proofs.Common.{◌≡◌, ℕ, ◌-◌, ◌<◌, Bool, true, false, not, List, length, get_or, take, drop, Some, None, Option, MatchOption, sym, ap, ◌∙◌, arith}
use Rattle.std.specs.List.{position_or_len, before_first}
use Rattle.std.specs.Option.{unwrap_or}
use Rattle.std.proofs.lemmas.List.{take_rest}
use Rattle.std.proofs.lemmas.List.Sums.{position_or_len_is}
use Rattle.notation.specs.Words.{blank, unindented, word_of, behind}

-- a search that finds none, or finds the first, says where a run ends
pub run_end : (p : ℕ → Bool) (s : List ℕ) (o : Option ℕ) (n : ℕ) → n ≡ unwrap_or o (length s) → MatchOption o ((k : ℕ) → k < length s → p (get_or s k 0) ≡ false) (λ i. (i < length s) × (p (get_or s i 0) ≡ true) × ((k : ℕ) → k < i → p (get_or s k 0) ≡ false)) → n ≡ position_or_len p s
run_end p s None n e h = e ∙ sym (position_or_len_is p s (length s) 0 (omega arith) h (λ l. absurd (omega arith)))
run_end p s (Some i) n e h = e ∙ sym (position_or_len_is p s i 0 (omega (arith, h.0)) h.2 (λ l. h.1))

-- the text behind its first blanks, as a slice gives it
unindented_is : (s : List ℕ) (a : ℕ) → a ≡ position_or_len (λ c. not (blank c)) s → take (length s - a) (drop a s) ≡ unindented s
unindented_is s a e = take_rest s a ∙ ap (λ n. drop n s) e

pub word_is : (s : List ℕ) (a b : ℕ) → a ≡ position_or_len (λ c. not (blank c)) s → b ≡ position_or_len blank (take (length s - a) (drop a s)) → take b (take (length s - a) (drop a s)) ≡ word_of s
word_is s a b e f = ap (λ n. take n (take (length s - a) (drop a s))) f ∙ ap (before_first blank) (unindented_is s a e)

pub behind_is : (s : List ℕ) (a b : ℕ) → a ≡ position_or_len (λ c. not (blank c)) s → b ≡ position_or_len blank (take (length s - a) (drop a s)) → drop b (take (length s - a) (drop a s)) ≡ behind s
behind_is s a b e f =
    ap (λ n. drop n (take (length s - a) (drop a s))) f ∙ ap (λ t. drop (position_or_len blank t) t) (unindented_is s a e)
