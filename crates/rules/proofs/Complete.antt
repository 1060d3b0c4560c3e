-- Every breach, by the page, is told by a section.
use Rattle.std.proofs.Common.{◌≡◌, ℕ, suc, ◌-◌, ◌<◌, ◌≤◌, Bool, true, not, ◌&&◌, Some, sym, refl, ◌∙◌, subst, inl, inr, arith}
use Rattle.std.proofs.lemmas.Slice.Eq.{bytes_eq-Decides}
use Rattle.form.specs.Model.{Name, Arg, Group, Subcommand, Form, blank_arg}
use Rattle.form.specs.Settings.{arg_set, arg_bit}
use Rattle.form.specs.Lists.{list_number, arg_names}
use Rattle.form.specs.declared.lists.ItemList.{ItemList}
use Rattle.form.specs.declared.lists.ItemList.TheVariants.{Requires}
use Rattle.form.specs.declared.arg_settings.ArgSettings.TheVariants.{Required}
use Rattle.rules.specs.declared.rule.Rule.{Rule}
use Rattle.rules.specs.declared.breach.Breach.{Breach}
use Rattle.rules.specs.Order.{Stands}
use Rattle.rules.specs.Told.{argument, subcommand, of_flags, of_two}
use Rattle.rules.specs.Words.{Flag, Ends, Called, Earlier, position_count}
use Rattle.rules.specs.Breaks.{Breaks, rule_1, rule_2, rule_3, rule_4, rule_5, rule_9, rule_10, rule_11, rule_12, rule_13, rule_15, rule_16, rule_17, rule_18, rule_19, rule_20, rule_21, rule_22, rule_23, rule_24, rule_25, rule_26, rule_27, rule_28, rule_31, rule_32, rule_33, rule_34, rule_35, rule_36, rule_37, rule_38, rule_39, rule_40, rule_41, rule_42, rule_43, rule_44, rule_45, rule_46, rule_47, rule_48, rule_49, rule_50, rule_51}
use Rattle.rules.specs.Rows.{ItemRow, ArgRow, GroupRow, by_argument, by_group, item_rows, arg_rows, items, group_rows, arg_of, settled_above, open_before_optional, multiple_low, too_many_wide}
use Rattle.rules.specs.Report.{called, taken_rule}
use Rattle.rules.proofs.Spots.{stands_getD}
use Rattle.rules.proofs.Shapes.{Told, Item, Argument, Grouped}
use Rattle.rules.proofs.Firsts.{first_found}
use Rattle.rules.proofs.Sections.{Taken, Reported, down_stands}
use Rattle.rules.proofs.Deciding.{both}
use Rattle.rules.proofs.Coded.{found_bit, is_reference}
use Rattle.rules.proofs.Decided.{dashed_decides, long_decides, letter_decides, index_decides, differ_decides, earlier_decides, stands_flag, no_arg_decides, missing_decides}
use Rattle.rules.proofs.Positions.{highest_one, are_ends}
use Rattle.rules.proofs.Rulings.{decides_1, decides_2, decides_5, decides_9, decides_10, decides_11, decides_12, decides_13, decides_15, decides_16, decides_23, decides_24, decides_26, decides_27, decides_28, decides_40, decides_41, decides_42, decides_43, decides_44, decides_45, decides_46, decides_47, decides_48, decides_49, decides_50}

module _ (f : Form) where
  -- row k of the argument section, of the item rows, and of the group section
  by_arg : (k p : ℕ) (a : Arg) (r : ArgRow) {b : Breach} → Stands arg_rows k r → Stands f.args p a → Argument f p a b r → Reported f b
  by_arg k p a r t s w = (3, by_argument 4 arg_rows, refl, (p, a, s, (k, r, t, w)))

  by_item : (m p : ℕ) (a : Arg) (l : ItemList) (k : ℕ) (x : Name) (r : ItemRow) {b : Breach} → Stands item_rows m r → Stands f.args p a → list_number l ≤ 7 → Stands (arg_names a l) k x → Item f p a l k x b r → Reported f b
  by_item m p a l k x r v s n t w = let i = is_reference l n in by_arg 15 p a (items item_rows) refl s (i.0, (l, λ c. arg_names c l), i.1, (k, x, t, (m, r, v, w)))

  by_grp : (k p : ℕ) (g : Group) (r : GroupRow) {b : Breach} → Stands group_rows k r → Stands f.groups p g → Grouped f p g b r → Reported f b
  by_grp k p g r t s w = (4, by_group 31 group_rows, refl, (p, g, s, (k, r, t, w)))

  flag_called : (s : Subcommand) (k : ℕ) (x : Name) → Flag (Some s.name) s.aliases k x → Stands (called s) k x
  flag_called s k x (inl (z, e)) = subst (λ (i : ℕ). Stands (called s) i x) (sym z) e
  flag_called s k x (inr (n, z, t)) = subst (λ (i : ℕ). Stands (called s) i x) (sym z) t

  taken : (p k q m : ℕ) (x : Name) → Called f p k x → Called f q m x → Earlier q m p k → Taken f.subcommands (of_flags (taken_rule k) (subcommand p) k (subcommand q) m)
  taken p k q m x (s, t, u) (r, v, w) e =
      let lt : q < suc p = elim e [ inl h ↦ omega arith | inr (h, _) ↦ omega arith ] in
      (p, s, t, (k, x, flag_called s k x u, (q, r, v, (lt, (m, x, flag_called r m x w, ((both (earlier_decides q m p k) (bytes_eq-Decides x x)).1 (e, refl), refl))))))

  -- the ends are the arguments at their places
  at_place : (p : ℕ) (a : Arg) → Stands f.args p a → a ≡ arg_of f p
  at_place p a s = sym (stands_getD f.args p a blank_arg s)

  ended : (r : Rule) (c : Form → Arg → Arg → Bool) (p q : ℕ) (l s : Arg) → Ends f p l q s → c f l s ≡ true → Told (c f (arg_of f p) (arg_of f q)) (of_two r (argument p) (argument q)) (of_two r (argument p) (argument q))
  ended r c p q l s e h =
      (subst (λ (a : Arg). c f (arg_of f p) a ≡ true) (at_place q s e.before.stands) (subst (λ (a : Arg). c f a s ≡ true) (at_place p l e.end.stands) h), refl)

  pub breaks_reported : (b : Breach) → Breaks f b → Reported f b
  breaks_reported _ (rule_1 h k) = (0, _, refl, ((decides_1 f).1 (h, k), refl))
  breaks_reported _ (rule_2 p a s h k) = (1, _, refl, (p, a, s, (0, _, refl, ((decides_2 f a).1 (h, k), refl))))
  breaks_reported _ (rule_3 p s x t e d) = (2, _, refl, (p, s, t, ((dashed_decides s.long).1 (x, e, d), refl)))
  breaks_reported _ (rule_4 p a k s t) = by_arg 0 p a _ refl s (k, a.id, t, ((bytes_eq-Decides a.id a.id).1 refl, refl))
  breaks_reported _ (rule_5 p a s h) = by_arg 1 p a _ refl s ((decides_5 a).1 h, refl)
  breaks_reported _ (rule_9 p a s h k) = by_arg 2 p a _ refl s ((decides_9 a).1 (h, k), refl)
  breaks_reported _ (rule_10 p a s h) = by_arg 3 p a _ refl s ((decides_10 a).1 h, refl)
  breaks_reported _ (rule_11 p a s h k) = by_arg 4 p a _ refl s ((decides_11 a).1 (h, k), refl)
  breaks_reported _ (rule_12 p a s h k) = by_arg 5 p a _ refl s ((decides_12 a).1 (h, k), refl)
  breaks_reported _ (rule_13 p a s h) = by_arg 6 p a _ refl s ((decides_13 a).1 h, refl)
  breaks_reported _ (rule_15 p a s h k) = by_arg 7 p a _ refl s ((decides_15 a).1 (h, k), refl)
  breaks_reported _ (rule_16 p a t s z o h) = let k = found_bit a.settings t o h in
      by_arg 8 p a _ refl s (arg_bit t, arg_bit t, k.0, ((decides_16 a (arg_bit t)).1 (z, k.1), refl))
  breaks_reported _ (rule_17 p a s h) = by_arg 9 p a _ refl s (h, refl)
  breaks_reported _ (rule_18 p a x s e d) = by_arg 10 p a _ refl s ((dashed_decides a.long).1 (x, e, d), refl)
  breaks_reported _ (rule_19 p q a o lt s t e) = by_arg 11 p a _ refl s (q, o, t, (lt, ((bytes_eq-Decides a.id o.id).1 e, refl)))
  breaks_reported _ (rule_20 p q a o x lt s t e d) = by_arg 12 p a _ refl s (q, o, t, (lt, ((long_decides a.long o.long).1 (x, e, d), refl)))
  breaks_reported _ (rule_21 p q a o c lt s t e d) = by_arg 13 p a _ refl s (q, o, t, (lt, ((letter_decides a.letter o.letter).1 (c, e, d), refl)))
  breaks_reported _ (rule_22 p q a o n lt s t x y i j) = by_arg 14 p a _ refl s (q, o, t, (lt, ((index_decides a o).1 (n, (x, i), (y, j)), refl)))
  breaks_reported _ (rule_23 p a k s t) = by_item 0 p a Requires k a.id _ refl s (omega arith) t ((decides_23 Requires a a.id).1 (refl, refl), refl)
  breaks_reported _ (rule_24 p a l k x s lo hi t r) = by_item 1 p a l k x _ refl s (omega arith) t ((decides_24 l a x).1 (r, (lo, hi)), refl)
  breaks_reported _ (rule_25 p a l k x s n t m) = by_item 2 p a l k x _ refl s n t ((missing_decides f x).1 m, refl)
  breaks_reported _ (rule_26 p a s h k) = by_arg 16 p a _ refl s ((decides_26 a).1 (h, k), refl)
  breaks_reported _ (rule_27 p a s h k) = by_arg 17 p a _ refl s ((decides_27 a).1 (h, k), refl)
  breaks_reported _ (rule_28 p a s h k) = by_arg 18 p a _ refl s ((decides_28 a).1 (h, k), refl)
  breaks_reported _ (rule_31 p q g h lt s t e) = by_grp 0 p g _ refl s (q, h, t, (lt, ((bytes_eq-Decides g.id h.id).1 e, refl)))
  breaks_reported _ (rule_32 p q g a s t e) = by_grp 1 p g _ refl s (q, a, t, ((bytes_eq-Decides g.id a.id).1 e, refl))
  breaks_reported _ (rule_33 p g k x s t m) = by_grp 2 p g _ refl s (k, x, t, ((no_arg_decides f x).1 m, refl))
  breaks_reported _ (rule_34 p g k x s t m) = by_grp 3 p g _ refl s (k, x, t, ((missing_decides f x).1 m, refl))
  breaks_reported _ (rule_35 p g k x s t m) = by_grp 4 p g _ refl s (k, x, t, ((missing_decides f x).1 m, refl))
  breaks_reported _ (rule_36 i j o w k m x lt s t u v d) =
      let y = stands_flag o.long o.long_aliases k x u in
      let z = stands_flag w.long w.long_aliases m x v in
      let h = (both (long_decides (Some x) (Some x)) (differ_decides o w)).1 ((x, refl, refl), d) in
      (5, _, refl, (i, o, s, (k, Some x, y, (j, w, t, (lt, (m, Some x, z, (h, refl)))))))
  breaks_reported _ (rule_37 i j o w k m c lt s t u v d) =
      let y = stands_flag o.letter o.letter_aliases k c u in
      let z = stands_flag w.letter w.letter_aliases m c v in
      let h = (both (letter_decides (Some c) (Some c)) (differ_decides o w)).1 ((c, refl, refl), d) in
      (6, _, refl, (i, o, s, (k, Some c, y, (j, w, t, (lt, (m, Some c, z, (h, refl)))))))
  breaks_reported _ (rule_38 p q m x s t e) = (7, _, refl, taken p 0 q m x s t e)
  breaks_reported _ (rule_39 p k q m x s t e) = (7, _, refl, taken p (suc k) q m x s t e)
  breaks_reported _ (rule_40 h a n) = (8, _, refl, ((decides_40 f).1 (λ e. n (sym (highest_one f h a) ∙ e)), refl))
  breaks_reported _ (rule_41 p a h s t x e l) = (9, _, refl, (p, a, s, (0, _, refl, ((decides_41 f a).1 (t, (e ∙ sym (highest_one f h x), l)), refl))))
  breaks_reported _ (rule_42 p a h s t x e l) = (9, _, refl, (p, a, s, (1, _, refl, ((decides_42 f a).1 (t, (e ∙ sym (highest_one f h x), l)), refl))))
  breaks_reported _ (rule_43 p a h s t x n) = (9, _, refl, (p, a, s, (2, _, refl, ((decides_43 f a).1 (t, λ e. n (e ∙ highest_one f h x)), refl))))
  breaks_reported _ (rule_44 p q l s e x y z t) = (10, _, refl, (0, (p, q), are_ends f p q l s e, ended _ open_before_optional p q l s e ((decides_44 f l s).1 ((x, y), (z, t)))))
  breaks_reported _ (rule_45 p q l s e x y) = (11, _, refl, (0, (p, q), are_ends f p q l s e, ended _ multiple_low p q l s e ((decides_45 f l s).1 (x, y))))
  breaks_reported _ (rule_46 p q l s i j e lt x y n) = (12, _, refl, (0, (p, q), are_ends f p q l s e, ended _ too_many_wide p q l s e ((decides_46 f l s).1 ((i, j, lt, x, y), n))))
  breaks_reported _ (rule_47 n p a m q o lo lt le x l y r z) =
      let g = at_place p a x.stands in
      let h = subst (λ (c : Arg). (not (arg_set c.settings Required) && settled_above f n) ≡ true) g ((decides_47 f n a).1 (l, (m, lt, le, (q, o, y, r, z)))) in
      let d = down_stands (position_count f) (position_count f - n) n (omega arith) lo in
      (13, _, refl, (position_count f - n, n, d, (p, first_found f n p a x, (h, refl))))
  breaks_reported _ (rule_48 p q a o lt s t x y z u) = (14, _, refl, (p, a, s, (0, _, refl, (q, o, t, (lt, ((decides_48 a o).1 ((x, y), (z, u)), refl))))))
  breaks_reported _ (rule_49 p a c s x r l t n) = (15, _, refl, (p, a, s, (0, _, refl, ((decides_49 f a).1 (((x, l), r), ((c, t), n)), refl))))
  breaks_reported _ (rule_50 m n) = (16, _, refl, ((decides_50 f).1 (m, n), refl))
  breaks_reported _ (rule_51 h) = (17, _, refl, (h, refl))
