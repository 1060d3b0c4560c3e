-- The bytes that a Name means.
use Rattle.std.specs.Prelude.{ℕ, List, take, Ok, Err, Result}
use Rattle.form.specs.declared.name.Name.{Name}

abbrev pub name_bytes : Name → List ℕ
name_bytes n = take n.len n.bytes

-- the same of an answer that may be a refusal
abbrev pub named : {E : Type 0} → Result Name E → Result (List ℕ) E
named (Ok n) = Ok (name_bytes n)
named (Err e) = Err e
