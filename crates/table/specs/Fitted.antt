-- What `within` tests is what the limits of a form say.
use Rattle.std.specs.Prelude.{◌≡◌, Bool, true, false, ◌&&◌, length, nat_le, refl}
use borrow.Author.Tests.{leb-true, clash}
use Rattle.form.specs.Model.{Form}
use Rattle.form.specs.Limits.{Fits, form_items}
use Rattle.table.specs.Tables.{within}

first : (a b : Bool) → (a && b) ≡ true → a ≡ true
first true b e = refl
first false b e = absurd (clash e)

second : (a b : Bool) → (a && b) ≡ true → b ≡ true
second true b e = e
second false b e = absurd (clash e)

pub within_fits : (f : Form) → within f ≡ true → Fits f
within_fits f e =
    let args = nat_le (length f.args) 80 in
    let groups = nat_le (length f.groups) 16 in
    let subcommands = nat_le (length f.subcommands) 32 in
    let items = nat_le (form_items f) 1024 in
    let rest = second args (groups && (subcommands && items)) e in
    let last = second groups (subcommands && items) rest in
    record {
      args = leb-true _ _ (first args (groups && (subcommands && items)) e);
      groups = leb-true _ _ (first groups (subcommands && items) rest);
      subcommands = leb-true _ _ (first subcommands items last);
      items = leb-true _ _ (second subcommands items last);
    }
