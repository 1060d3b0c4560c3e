-- Examples of ranges and names, each said with the definitions that the contracts use.
use Rattle.std.specs.Prelude.{◌≡◌, ℕ, List, [], length, Ok, Err}
use Rattle.form.specs.Names.{name_of}
use Rattle.form.specs.Ranges.{fixed, to_before}
use Rattle.form.specs.Refusals.{refusal_number}
use Rattle.form.specs.declared.refusal.RangeFault.TheVariants.{LeastAboveMost}
use Rattle.form.specs.declared.refusal.NameFault.TheVariants.{Empty, TooLong}
use Rattle.form.specs.declared.refusal.Refusal.TheVariants.{RangeOrder, NameLength}

pub record SmallTypes : Type 0 where
  -- 0 to before 0 is 0..0
  pub zero : to_before 0 0 ≡ Ok (fixed 0)
  -- 5 to before 5 is refused, with 101
  pub five : to_before 5 5 ≡ Err LeastAboveMost
  pub order : refusal_number RangeOrder ≡ 101
  -- a name of 32 bytes is taken; 33 bytes and none are refused, with 102
  pub just : (s : List ℕ) → length s ≡ 32 → name_of s ≡ Ok s
  pub long : (s : List ℕ) → length s ≡ 33 → name_of s ≡ Err TooLong
  pub none : name_of [] ≡ Err Empty
  pub bytes : refusal_number NameLength ≡ 102
