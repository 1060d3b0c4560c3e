-- The bytes that are held in place.
use Rattle.std.specs.Prelude.{ℕ, List, take}
use Rattle.form.specs.declared.name.Bytes.{Bytes}

abbrev pub held_bytes : {N : ℕ} → Bytes N → List ℕ
held_bytes b = take b.len b.items
