use Rattle.std.proofs.Common.{rules, ◌≡◌, ◌++◌, map, vec_items, sym, refl, ap, ◌∙◌, arith}
use Rattle.std.specs.Option.{option_map}
use Rattle.form.specs.Keys.{letter, long, listed}
use Rattle.form.specs.declared.lists.ItemList.TheVariants.{LetterAliases, LongAliases}
use Rattle.calls.specs.Marked.{arg_entry}
use Rattle.book_tables.specs.Held.{held, arg_held, row_held}
use Rattle.book_tables.proofs.Places.{names_seen, letters_seen}
use Rattle.book.specs.KeyRows.{key_named, key_held, keyed_at, alias_key}
use Rattle.book.proofs.Fills.{mapped_listed, listed_pushed, same_long, aliases_pushed, parts_keyed, parts_long, four_pushed}
use Rattle.book.proofs.key_pushes.push_arg.Goals as goal

pub push_aliases-requires : goal.push_aliases-requires
push_aliases-requires c =
    let p = c.args.place in
    let rs = map row_held c.args.rows.now in
    let a = arg_entry rs (held arg_held c.args.arg.now) in
    let one : option_map key_named c.map.result ≡ option_map letter a.letter = search rules in
    let two : option_map key_named c.map-2.result ≡ option_map long a.long = search rules in
    let cs = letters_seen alias_key c.args.arg.now.mark LetterAliases rs refl in
    omega (arith, c.requires, parts_long p a c.in_default.is, listed_pushed p _ _ _ letter a.letter c.push_some.ensures one, listed_pushed p _ _ _ long a.long c.push_some-2.ensures two, same_long letter alias_key a.letter_aliases _ cs)

pub push_aliases-requires-2 : goal.push_aliases-requires-2
push_aliases-requires-2 c =
    let p = c.args.place in
    let rs = map row_held c.args.rows.now in
    let a = arg_entry rs (held arg_held c.args.arg.now) in
    let one : option_map key_named c.map.result ≡ option_map letter a.letter = search rules in
    let two : option_map key_named c.map-2.result ≡ option_map long a.long = search rules in
    let cs = letters_seen alias_key c.args.arg.now.mark LetterAliases rs refl in
    let xs = names_seen alias_key c.args.arg.now.mark LongAliases rs refl in
    omega (arith, c.requires, parts_long p a c.in_default.is, listed_pushed p _ _ _ letter a.letter c.push_some.ensures one, listed_pushed p _ _ _ long a.long c.push_some-2.ensures two, aliases_pushed p _ _ _ letter a.letter_aliases c.push_aliases.ensures cs, same_long long alias_key a.long_aliases _ xs)

pub returns : goal.returns
returns c =
    let p = c.args.place in
    let rs = map row_held c.args.rows.now in
    let a = arg_entry rs (held arg_held c.args.arg.now) in
    let one : option_map key_named c.map.result ≡ option_map letter a.letter = search rules in
    let two : option_map key_named c.map-2.result ≡ option_map long a.long = search rules in
    let cs = letters_seen alias_key c.args.arg.now.mark LetterAliases rs refl in
    let xs = names_seen alias_key c.args.arg.now.mark LongAliases rs refl in
    four_pushed p (map letter (listed a.letter)) (map long (listed a.long)) (map letter a.letter_aliases) (map long a.long_aliases) _ _ _ _ _
    (c.push_some.ensures ∙ ap (λ l. map key_held (vec_items c.args.keys.now.list) ++ map (keyed_at p) l) (ap listed one ∙ mapped_listed letter a.letter))
    (c.push_some-2.ensures ∙ ap (λ l. map key_held (vec_items c.push_some.new.keys.list) ++ map (keyed_at p) l) (ap listed two ∙ mapped_listed long a.long))
    (c.push_aliases.ensures ∙ ap (λ l. map key_held (vec_items c.push_some-2.new.keys.list) ++ map (keyed_at p) l) (sym cs))
    (c.push_aliases-2.ensures ∙ ap (λ l. map key_held (vec_items c.push_aliases.new.keys.list) ++ map (keyed_at p) l) (sym xs))
    ∙ ap (λ l. map key_held (vec_items c.args.keys.now.list) ++ l) (sym (parts_keyed p a c.in_default.is))
