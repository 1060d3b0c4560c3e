-- What a book means, open or built.
use Rattle.std.specs.Prelude.{◌≡◌, ℕ, map, length, vec_items}
use Rattle.std.specs.Option.{option_map}
use Rattle.std.specs.List.{slice_get}
use Rattle.std.proofs.Common.{sym, ap, ◌∙◌}
use Rattle.std.proofs.lemmas.List.{length-map}
use Rattle.std.proofs.lemmas.Option.{slice_get-map}
use Rattle.form.specs.Keys.{keys_of}
use Rattle.form.specs.Model.{Form}
use Rattle.form.specs.Limits.{Fits}
use Rattle.calls.specs.Marked.{MarkedForm, form_of}
use Rattle.book_tables.specs.Tables.{tables_marked}
use Rattle.book.specs.KeyRows.{key_held}
use Rattle.book.specs.SameKeys.{keys_same}
use Rattle.book_tables.specs.Fitted.{book_fits}
use Rattle.book.specs.declared.states.OpenBook.{OpenBook}
use Rattle.book.specs.declared.states.BuiltBook.{BuiltBook}

-- the marked form that an open book holds
abbrev pub open_marked : OpenBook → MarkedForm
open_marked b = tables_marked b.tables

-- the marked form that a built book holds
abbrev pub built_marked : BuiltBook → MarkedForm
built_marked b = tables_marked b.tables

-- the form that a built book shows
abbrev pub built_form : BuiltBook → Form
built_form b = form_of (built_marked b)

-- it is within the limits of a form
pub built_fits : (b : BuiltBook) → Fits (built_form b)
built_fits b = book_fits b.tables

-- the keys that it stores are those of its form
pub built_keys : (b : BuiltBook) → map key_held (vec_items b.keys.list) ≡ keys_of (built_form b)
built_keys b = keys_same (map key_held (vec_items b.keys.list)) (keys_of (built_form b)) b.keyed

pub key_shown : (b : BuiltBook) (i : ℕ) → option_map key_held (slice_get (vec_items b.keys.list) i) ≡ slice_get (keys_of (built_form b)) i
key_shown b i = sym (slice_get-map key_held (vec_items b.keys.list) i) ∙ ap (λ ks. slice_get ks i) (built_keys b)

pub keys_counted : (b : BuiltBook) → length (vec_items b.keys.list) ≡ length (keys_of (built_form b))
keys_counted b = sym (length-map (vec_items b.keys.list) key_held) ∙ ap length (built_keys b)
