-- Names are equal exactly where their bytes are.
use Rattle.std.specs.Prelude.{◌≡◌, Bool, Decides}
use Rattle.std.specs.Str.{bytes_eq}
use Rattle.std.specs.Cmp.{IsPartialEquivalence, IsEquivalence, on_equiv, nat_eq_equiv, partial_equiv_from_equiv}
use Rattle.std.specs.Cmp.Lexicographic.{lists_equiv}
use Rattle.std.proofs.lemmas.Slice.Eq.{bytes_eq-Decides}
use Rattle.form.specs.declared.name.Name.{Name}
use Rattle.form.specs.NameBytes.{name_bytes}

-- the test of names
abbrev pub same_name : Name → Name → Bool
same_name a b = bytes_eq (name_bytes a) (name_bytes b)

-- it decides whether the bytes are the same
pub same_name_decides : (a b : Name) → Decides (same_name a b) (name_bytes a ≡ name_bytes b)
same_name_decides a b = bytes_eq-Decides (name_bytes a) (name_bytes b)

pub same_name_equiv : IsEquivalence same_name
same_name_equiv = on_equiv name_bytes (lists_equiv nat_eq_equiv)

pub same_name_per : IsPartialEquivalence same_name
same_name_per = partial_equiv_from_equiv same_name_equiv
