-- Names and letters: which are taken, and why the others are refused.
use Rattle.std.specs.Prelude.{ℕ, Bool, cond, ◌&&◌, ◌||◌, List, length, Ok, Err, Result, ◌==◌, nat_le, nat_lt}
use Rattle.form.specs.declared.refusal.NameFault.{NameFault}
use Rattle.form.specs.declared.refusal.NameFault.TheVariants.{Empty, TooLong}
use Rattle.form.specs.declared.refusal.LetterFault.{LetterFault}
use Rattle.form.specs.declared.refusal.LetterFault.TheVariants.{NotScalar}

-- 1 to 32 bytes are a name
abbrev pub name_of : List ℕ → Result (List ℕ) NameFault
name_of s = cond (length s == 0) (Err Empty) (cond (nat_lt 32 (length s)) (Err TooLong) (Ok s))

-- the Unicode scalar values: the code points but for the surrogates
abbrev pub scalar : ℕ → Bool
scalar n = nat_lt n 0xD800 || (nat_le 0xE000 n && nat_le n 0x10FFFF)

-- a scalar value is a letter
abbrev pub letter_of : ℕ → Result ℕ LetterFault
letter_of n = cond (scalar n) (Ok n) (Err NotScalar)
