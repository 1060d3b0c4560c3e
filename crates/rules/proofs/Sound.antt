-- What a section tells is a breach, by the page.
use Rattle.std.proofs.Common.{◌≡◌, ℕ, zero, suc, ◌≤◌, Bool, true, not, ◌&&◌, eqb, List, [], ◌∷◌, Some, sym, refl, subst, inl, inr}
use lib.Bits.{bit_and}
use Rattle.std.specs.List.{range_with_len}
use Rattle.std.specs.Str.{bytes_eq}
use Rattle.std.proofs.lemmas.Slice.Eq.{bytes_eq-Decides}
use Rattle.form.specs.Model.{Name, Arg, Group, Subcommand, Form, blank_arg}
use Rattle.form.specs.Settings.{arg_set, bit}
use Rattle.form.specs.Lists.{list_number, arg_names}
use Rattle.form.specs.declared.lists.ItemList.{ItemList}
use Rattle.form.specs.declared.lists.ItemList.TheVariants.{Requires}
use Rattle.form.specs.declared.arg_settings.ArgSettings.TheVariants.{Required}
use Rattle.rules.specs.declared.rule.Rule.{Rule}
use Rattle.rules.specs.declared.rule.Rule.TheVariants.{SettingWithoutValue, RequiresItself, SameLongFlag, SameLetterFlag, VersionActionWithoutVersion, OpenBeforeOptional, MultipleElsewhere, TooManyMultiple, TwoLast, RequiredLastWithSubcommands}
use Rattle.rules.specs.declared.breach.Breach.{Breach}
use Rattle.rules.specs.Order.{Stands}
use Rattle.rules.specs.Told.{argument, of_bit, of_item, of_two}
use Rattle.rules.specs.Words.{most, owners, Flag, Ends, position_count}
use Rattle.rules.specs.Breaks.{Breaks, rule_1, rule_2, rule_3, rule_4, rule_5, rule_9, rule_10, rule_11, rule_12, rule_13, rule_15, rule_16, rule_17, rule_18, rule_19, rule_20, rule_21, rule_22, rule_23, rule_24, rule_25, rule_26, rule_27, rule_28, rule_31, rule_32, rule_33, rule_34, rule_35, rule_36, rule_37, rule_38, rule_39, rule_40, rule_41, rule_42, rule_43, rule_44, rule_45, rule_46, rule_47, rule_48, rule_49, rule_50, rule_51}
use Rattle.rules.specs.Rows.{ItemRow, ArgRow, later, items, whole, GroupRow, Section, at_ends, by_position, item_rows, arg_rows, group_rows, trailing_rows, sections, value_bits, arg_of, highest, settled_above, version_without_version, two_last, required_last, open_before_optional, multiple_low, too_many_wide}
use Rattle.rules.specs.Report.{called, long_flags, letter_flags}
use Rattle.rules.proofs.Spots.{Among, Every, end, ◌⨾◌, EveryStands, stands_getD}
use Rattle.rules.proofs.Shapes.{Told, Item, Argument, Grouped}
use Rattle.rules.proofs.Firsts.{found_first}
use Rattle.rules.proofs.Sections.{Clash, Taken, Sectioned, Reported, stands_down}
use Rattle.rules.proofs.Deciding.{both}
use Rattle.rules.proofs.Coded.{bit_found, reference_is}
use Rattle.rules.proofs.Decided.{dashed_decides, long_decides, letter_decides, index_decides, differ_decides, earlier_decides, flag_stands, no_arg_decides, missing_decides}
use Rattle.rules.proofs.Positions.{highest_is, ends_are}
use Rattle.rules.proofs.Rulings.{decides_1, decides_2, decides_5, decides_9, decides_10, decides_11, decides_12, decides_13, decides_15, decides_16, decides_23, decides_24, decides_26, decides_27, decides_28, decides_40, decides_41, decides_42, decides_43, decides_44, decides_45, decides_46, decides_47, decides_48, decides_49, decides_50}

module _ (f : Form) where
  -- a breach that is told if its test holds
  by : {c : Bool} {d b : Breach} → (c ≡ true → Breaks f d) → Told c d b → Breaks f b
  by k (h, e) = subst (Breaks f) (sym e) (k h)

  -- the rows on an item
  abbrev ItemSound : ℕ → Arg → ItemList → ℕ → Name → ItemRow → Type 0
  ItemSound p a l k x r = (b : Breach) → Item f p a l k x b r → Breaks f b

  sound_23 : (p : ℕ) (a : Arg) (l : ItemList) (k : ℕ) (x : Name) → Stands f.args p a → Stands (arg_names a l) k x → (l ≡ Requires) × (x ≡ a.id) → Breaks f (of_item RequiresItself (argument p) l k)
  sound_23 p a l k x s t (e, q) =
      let u : Stands a.requires k x = subst (λ (m : ItemList). Stands (arg_names a m) k x) e t in
      subst (λ (m : ItemList). Breaks f (of_item RequiresItself (argument p) m k)) (sym e) (rule_23 p a k s (subst (Stands a.requires k) q u))

  item_sound : (p : ℕ) (a : Arg) (l : ItemList) (k : ℕ) (x : Name) → Stands f.args p a → list_number l ≤ 7 → Stands (arg_names a l) k x → Every (ItemSound p a l k x) item_rows
  item_sound p a l k x s n t =
      (λ b. by (λ h. sound_23 p a l k x s t ((decides_23 l a x).0 h)))
      ⨾ (λ b. by (λ h. let (r, (lo, hi)) = (decides_24 l a x).0 h in rule_24 p a l k x s lo hi t r))
      ⨾ (λ b. by (λ h. rule_25 p a l k x s n t ((missing_decides f x).0 h)))
      ⨾ end

  -- the rows on an argument
  abbrev ArgSound : ArgRow → Type 0
  ArgSound r = (p : ℕ) (a : Arg) → Stands f.args p a → (b : Breach) → Argument f p a b r → Breaks f b

  sound_16 : (p : ℕ) (a : Arg) (k m : ℕ) → Stands f.args p a → Stands (range_with_len 0 12) k m → (most a ≡ 0) × (bit (bit_and a.settings value_bits) k ≡ true) → Breaks f (of_bit SettingWithoutValue (argument p) k)
  sound_16 p a k m s i (z, h) = let (t, e, o, w) = bit_found a.settings k m i h in subst (λ (j : ℕ). Breaks f (of_bit SettingWithoutValue (argument p) j)) (sym e) (rule_16 p a t s z o w)

  items_sound : ArgSound (items item_rows)
  items_sound p a s b (i, l, u, (k, x, t, (m, r, v, w))) =
      let n = reference_is i l u in
      EveryStands (ItemSound p a l.0 k x) item_rows (item_sound p a l.0 k x s n.0 (subst (λ (xs : List Name). Stands xs k x) (n.1 a) t)) m r v b w

  arg_sound : Every ArgSound arg_rows
  arg_sound =
      (λ p a s b (k, x, t, w). by (λ h. rule_4 p a k s (subst (Stands a.conflicts k) ((bytes_eq-Decides x a.id).0 h) t)) w)
      ⨾ (λ p a s b. by (λ h. rule_5 p a s ((decides_5 a).0 h)))
      ⨾ (λ p a s b. by (λ h. let (i, g) = (decides_9 a).0 h in rule_9 p a s i g))
      ⨾ (λ p a s b. by (λ h. rule_10 p a s ((decides_10 a).0 h)))
      ⨾ (λ p a s b. by (λ h. let (i, m) = (decides_11 a).0 h in rule_11 p a s i m))
      ⨾ (λ p a s b. by (λ h. let (q, i) = (decides_12 a).0 h in rule_12 p a s q i))
      ⨾ (λ p a s b. by (λ h. rule_13 p a s ((decides_13 a).0 h)))
      ⨾ (λ p a s b. by (λ h. let (l, r) = (decides_15 a).0 h in rule_15 p a s l r))
      ⨾ (λ p a s b (k, m, t, w). by (λ h. sound_16 p a k m s t ((decides_16 a k).0 h)) w)
      ⨾ (λ p a s b. by (λ h. rule_17 p a s h))
      ⨾ (λ p a s b. by (λ h. let (x, e, d) = (dashed_decides a.long).0 h in rule_18 p a x s e d))
      ⨾ (λ p a s b (q, o, t, (lt, w)). by (λ h. rule_19 p q a o lt s t ((bytes_eq-Decides a.id o.id).0 h)) w)
      ⨾ (λ p a s b (q, o, t, (lt, w)). by (λ h. let (x, e, d) = (long_decides a.long o.long).0 h in rule_20 p q a o x lt s t e d) w)
      ⨾ (λ p a s b (q, o, t, (lt, w)). by (λ h. let (c, e, d) = (letter_decides a.letter o.letter).0 h in rule_21 p q a o c lt s t e d) w)
      ⨾ (λ p a s b (q, o, t, (lt, w)). by (λ h. let (n, (x, i), (y, j)) = (index_decides a o).0 h in rule_22 p q a o n lt s t x y i j) w)
      ⨾ items_sound
      ⨾ (λ p a s b. by (λ h. let (l, g) = (decides_26 a).0 h in rule_26 p a s l g))
      ⨾ (λ p a s b. by (λ h. let (l, g) = (decides_27 a).0 h in rule_27 p a s l g))
      ⨾ (λ p a s b. by (λ h. let (r, g) = (decides_28 a).0 h in rule_28 p a s r g))
      ⨾ end

  trailing_sound : Every ArgSound trailing_rows
  trailing_sound =
      (λ p a s b. by (λ h. let (t, (e, l)) = (decides_41 f a).0 h in rule_41 p a (highest f) s t (highest_is f) e l))
      ⨾ (λ p a s b. by (λ h. let (t, (e, l)) = (decides_42 f a).0 h in rule_42 p a (highest f) s t (highest_is f) e l))
      ⨾ (λ p a s b. by (λ h. let (t, e) = (decides_43 f a).0 h in rule_43 p a (highest f) s t (highest_is f) e))
      ⨾ end

  args_sound : (rows : List ArgRow) → Every ArgSound rows → (b : Breach) → Among f.args (λ p a. Among rows (λ _ r. Argument f p a b r)) → Breaks f b
  args_sound rows all b (p, a, s, (k, r, t, w)) = EveryStands ArgSound rows all k r t p a s b w

  -- the rows on a group
  abbrev GroupSound : GroupRow → Type 0
  GroupSound r = (p : ℕ) (g : Group) → Stands f.groups p g → (b : Breach) → Grouped f p g b r → Breaks f b

  group_sound : Every GroupSound group_rows
  group_sound =
      (λ p g s b (q, h, t, (lt, w)). by (λ e. rule_31 p q g h lt s t ((bytes_eq-Decides g.id h.id).0 e)) w)
      ⨾ (λ p g s b (q, a, t, w). by (λ e. rule_32 p q g a s t ((bytes_eq-Decides g.id a.id).0 e)) w)
      ⨾ (λ p g s b (k, x, t, w). by (λ e. rule_33 p g k x s t ((no_arg_decides f x).0 e)) w)
      ⨾ (λ p g s b (k, x, t, w). by (λ e. rule_34 p g k x s t ((missing_decides f x).0 e)) w)
      ⨾ (λ p g s b (k, x, t, w). by (λ e. rule_35 p g k x s t ((missing_decides f x).0 e)) w)
      ⨾ end

  groups_sound : (rows : List GroupRow) → Every GroupSound rows → (b : Breach) → Among f.groups (λ p g. Among rows (λ _ r. Grouped f p g b r)) → Breaks f b
  groups_sound rows all b (p, g, s, (k, r, t, w)) = EveryStands GroupSound rows all k r t p g s b w

  -- flags and names
  long_sound : (b : Breach) → Clash bytes_eq long_flags SameLongFlag (owners f) b → Breaks f b
  long_sound b (i, o, s, (k, x, u, (j, w, t, (lt, (m, y, v, z))))) = by (λ h.
      let ((n, e, g), d) = (both (long_decides x y) (differ_decides o w)).0 h in
      rule_36 i j o w k m n lt s t (flag_stands o.long o.long_aliases k x n u e) (flag_stands w.long w.long_aliases m y n v g) d) z

  letter_sound : (b : Breach) → Clash eqb letter_flags SameLetterFlag (owners f) b → Breaks f b
  letter_sound b (i, o, s, (k, x, u, (j, w, t, (lt, (m, y, v, z))))) = by (λ h.
      let ((n, e, g), d) = (both (letter_decides x y) (differ_decides o w)).0 h in
      rule_37 i j o w k m n lt s t (flag_stands o.letter o.letter_aliases k x n u e) (flag_stands w.letter w.letter_aliases m y n v g) d) z

  called_flag : (s : Subcommand) (k : ℕ) (x : Name) → Stands (called s) k x → Flag (Some s.name) s.aliases k x
  called_flag s zero x h = inl (refl, h)
  called_flag s (suc k) x h = inr (k, refl, h)

  taken_sound : (b : Breach) → Taken f.subcommands b → Breaks f b
  taken_sound b (p, s, t, (zero, x, u, (q, r, v, (lt, (m, y, z, w))))) = by (λ h.
      let (e, g) = (both (earlier_decides q m p 0) (bytes_eq-Decides x y)).0 h in
      rule_38 p q m y (s, t, subst (Flag (Some s.name) s.aliases 0) g (called_flag s 0 x u)) (r, v, called_flag r m y z) e) w
  taken_sound b (p, s, t, (suc k, x, u, (q, r, v, (lt, (m, y, z, w))))) = by (λ h.
      let (e, g) = (both (earlier_decides q m p (suc k)) (bytes_eq-Decides x y)).0 h in
      rule_39 p k q m y (s, t, subst (Flag (Some s.name) s.aliases (suc k)) g (called_flag s (suc k) x u)) (r, v, called_flag r m y z) e) w

  -- the two ends, and the positions
  ends_sound : (r : Rule) (c : Form → Arg → Arg → Bool) → ((p q : ℕ) (l s : Arg) → Ends f p l q s → c f l s ≡ true → Breaks f (of_two r (argument p) (argument q)))
      → (b : Breach) → Sectioned f b (at_ends r c) → Breaks f b
  ends_sound r c k b (i, e, s, w) = by (λ h.
      let x = ends_are f i e s in
      let g : c f x.l (arg_of f e.1) ≡ true = subst (λ (a : Arg). c f a (arg_of f e.1) ≡ true) x.l_is h in
      k e.0 e.1 x.l x.s x.ends (subst (λ (a : Arg). c f x.l a ≡ true) x.s_is g)) w

  position_sound : (b : Breach) → Sectioned f b by_position → Breaks f b
  position_sound b (k, n, s, (p, e, w)) = by (λ h.
      let x = found_first f n p e in
      let g = stands_getD f.args p x.0 blank_arg x.1.stands in
      let (l, (m, lt, le, (q, o, y, r, z))) = (decides_47 f n x.0).0 (subst (λ (a : Arg). (not (arg_set a.settings Required) && settled_above f n) ≡ true) g h) in
      rule_47 n p x.0 m q o (stands_down (position_count f) k n s).1 lt le x.1 l y r z) w

  -- the sections
  abbrev SectionSound : Section → Type 0
  SectionSound s = (b : Breach) → Sectioned f b s → Breaks f b

  sections_sound : Every SectionSound sections
  sections_sound =
      (λ b. by (λ h. let (p, v) = (decides_1 f).0 h in rule_1 p v))
      ⨾ args_sound (whole VersionActionWithoutVersion version_without_version ∷ []) ((λ p a s b. by (λ h. let (v, n) = (decides_2 f a).0 h in rule_2 p a s v n)) ⨾ end)
      ⨾ (λ b (p, s, t, w). by (λ h. let (x, e, d) = (dashed_decides s.long).0 h in rule_3 p s x t e d) w)
      ⨾ args_sound arg_rows arg_sound
      ⨾ groups_sound group_rows group_sound
      ⨾ long_sound
      ⨾ letter_sound
      ⨾ taken_sound
      ⨾ (λ b. by (λ h. rule_40 (highest f) (highest_is f) ((decides_40 f).0 h)))
      ⨾ args_sound trailing_rows trailing_sound
      ⨾ ends_sound OpenBeforeOptional open_before_optional (λ p q l s e h. let ((x, y), (z, t)) = (decides_44 f l s).0 h in rule_44 p q l s e x y z t)
      ⨾ ends_sound MultipleElsewhere multiple_low (λ p q l s e h. let (x, y) = (decides_45 f l s).0 h in rule_45 p q l s e x y)
      ⨾ ends_sound TooManyMultiple too_many_wide (λ p q l s e h. let ((i, j, lt, x, y), n) = (decides_46 f l s).0 h in rule_46 p q l s i j e lt x y n)
      ⨾ position_sound
      ⨾ args_sound (later TwoLast two_last ∷ []) ((λ p a s b (q, o, t, (lt, w)). by (λ h. let ((x, y), (z, u)) = (decides_48 a o).0 h in rule_48 p q a o lt s t x y z u) w) ⨾ end)
      ⨾ args_sound (whole RequiredLastWithSubcommands required_last ∷ []) ((λ p a s b. by (λ h. let (((x, l), r), ((c, t), n)) = (decides_49 f a).0 h in rule_49 p a c s x r l t n)) ⨾ end)
      ⨾ (λ b. by (λ h. let (m, n) = (decides_50 f).0 h in rule_50 m n))
      ⨾ (λ b. by (λ h. rule_51 h))
      ⨾ end

  pub reported_breaks : (b : Breach) → Reported f b → Breaks f b
  reported_breaks b (i, s, t, w) = EveryStands SectionSound sections sections_sound i s t b w
