-- A missing-name breach goes with its entry, while the name stays missing.
use Rattle.std.proofs.Common.{◌≡◌, ℕ, ◌≤◌, Bool, true, false, List, get_or, sym, refl, ap, ◌∙◌, subst, subst₂, arith}
use Rattle.std.specs.List.{slice_get}
use Rattle.std.proofs.lemmas.Bool.{both_ways}
use Rattle.form.specs.Model.{Name, Arg, Group, Form, blank_arg, blank_group}
use Rattle.form.specs.Lists.{list_number, arg_names, names_at}
use Rattle.form.specs.declared.lists.EntryKind.{EntryKind}
use Rattle.form.specs.declared.lists.EntryKind.TheVariants as kind
use Rattle.form.specs.declared.lists.ItemList.{ItemList}
use Rattle.form.specs.declared.lists.ItemList.TheVariants.{Requires, RIfs, RIfsAll, RUnless, RUnlessAll, Conflicts, Overrides, LongAliases, LetterAliases, Members, GroupRequires, GroupConflicts, SubcommandAliases, LongFlagAliases, LetterFlagAliases}
use Rattle.rules.specs.declared.rule.Rule.{Rule}
use Rattle.rules.specs.declared.rule.Rule.TheVariants.{MissingReference, MissingMember, MissingGroupRequirement, MissingGroupConflict}
use Rattle.rules.specs.declared.breach.Entry.{Entry}
use Rattle.rules.specs.declared.breach.Breach.{Breach}
use Rattle.rules.specs.Order.{Stands}
use Rattle.rules.specs.Told.{argument, group, of_item}
use Rattle.rules.specs.Words.{NoArg, Missing}
use Rattle.rules.specs.Breaks.{Breaks, rule_1, rule_2, rule_3, rule_4, rule_5, rule_9, rule_10, rule_11, rule_12, rule_13, rule_15, rule_16, rule_17, rule_18, rule_19, rule_20, rule_21, rule_22, rule_23, rule_24, rule_25, rule_26, rule_27, rule_28, rule_31, rule_32, rule_33, rule_34, rule_35, rule_36, rule_37, rule_38, rule_39, rule_40, rule_41, rule_42, rule_43, rule_44, rule_45, rule_46, rule_47, rule_48, rule_49, rule_50, rule_51}
use Rattle.rules.specs.Laws.{Class, own, pair, missing, of_form, class, moved, Moved}
use Rattle.rules.proofs.Spots.{stands_getD}
use Rattle.calls.specs.Law.{MissingName}

abbrev is_missing : Class → Bool
is_missing own = false
is_missing pair = false
is_missing missing = true
is_missing of_form = false

-- the breaches that tell a missing name
pub data Lack (f : Form) : Breach → Type 0 where
  reference : (p : ℕ) (a : Arg) (l : ItemList) (k : ℕ) (x : Name) → Stands f.args p a → list_number l ≤ 7 → Stands (arg_names a l) k x → Missing f x → Lack f (of_item MissingReference (argument p) l k)
  member : (p : ℕ) (g : Group) (k : ℕ) (x : Name) → Stands f.groups p g → Stands g.members k x → NoArg f x → Lack f (of_item MissingMember (group p) Members k)
  requirement : (p : ℕ) (g : Group) (k : ℕ) (x : Name) → Stands f.groups p g → Stands g.requires k x → Missing f x → Lack f (of_item MissingGroupRequirement (group p) GroupRequires k)
  conflict : (p : ℕ) (g : Group) (k : ℕ) (x : Name) → Stands f.groups p g → Stands g.conflicts k x → Missing f x → Lack f (of_item MissingGroupConflict (group p) GroupConflicts k)

far : {P : Type 0} → false ≡ true → P
far h = absurd (both_ways false refl h)

module _ (f : Form) where
  lacks : (b : Breach) → is_missing (class b.rule) ≡ true → Breaks f b → Lack f b
  lacks _ is (rule_1 a b) = far is
  lacks _ is (rule_2 a b c d e) = far is
  lacks _ is (rule_3 a b c d e f) = far is
  lacks _ is (rule_4 a b c d e) = far is
  lacks _ is (rule_5 a b c d) = far is
  lacks _ is (rule_9 a b c d e) = far is
  lacks _ is (rule_10 a b c d) = far is
  lacks _ is (rule_11 a b c d e) = far is
  lacks _ is (rule_12 a b c d e) = far is
  lacks _ is (rule_13 a b c d) = far is
  lacks _ is (rule_15 a b c d e) = far is
  lacks _ is (rule_16 a b c d e f g) = far is
  lacks _ is (rule_17 a b c d) = far is
  lacks _ is (rule_18 a b c d e f) = far is
  lacks _ is (rule_19 a b c d e f g h) = far is
  lacks _ is (rule_20 a b c d e f g h i j) = far is
  lacks _ is (rule_21 a b c d e f g h i j) = far is
  lacks _ is (rule_22 a b c d e f g h i j k l) = far is
  lacks _ is (rule_23 a b c d e) = far is
  lacks _ is (rule_24 a b c d e f g h i j) = far is
  lacks _ is (rule_25 p a l k x s n t m) = reference p a l k x s n t m
  lacks _ is (rule_26 a b c d e) = far is
  lacks _ is (rule_27 a b c d e) = far is
  lacks _ is (rule_28 a b c d e) = far is
  lacks _ is (rule_31 a b c d e f g h) = far is
  lacks _ is (rule_32 a b c d e f g) = far is
  lacks _ is (rule_33 p g k x s t m) = member p g k x s t m
  lacks _ is (rule_34 p g k x s t m) = requirement p g k x s t m
  lacks _ is (rule_35 p g k x s t m) = conflict p g k x s t m
  lacks _ is (rule_36 a b c d e f g h i j k l m) = far is
  lacks _ is (rule_37 a b c d e f g h i j k l m) = far is
  lacks _ is (rule_38 a b c d e f g) = far is
  lacks _ is (rule_39 a b c d e f g h) = far is
  lacks _ is (rule_40 a b c) = far is
  lacks _ is (rule_41 a b c d e f g h) = far is
  lacks _ is (rule_42 a b c d e f g h) = far is
  lacks _ is (rule_43 a b c d e f g) = far is
  lacks _ is (rule_44 a b c d e f g h i) = far is
  lacks _ is (rule_45 a b c d e f g) = far is
  lacks _ is (rule_46 a b c d e f g h i j k) = far is
  lacks _ is (rule_47 a b c d e f g h i j k l m n) = far is
  lacks _ is (rule_48 a b c d e f g h i j k) = far is
  lacks _ is (rule_49 a b c d e f g h i) = far is
  lacks _ is (rule_50 a b) = far is
  lacks _ is (rule_51 a) = far is

pub lacking : (f : Form) (b : Breach) → class b.rule ≡ missing → Breaks f b → Lack f b
lacking f b e = lacks f b (ap is_missing e)

-- the names in a list of an argument, told by its place
arg_names_at : (f : Form) (p : ℕ) (a : Arg) (l : ItemList) → Stands f.args p a → list_number l ≤ 7 → names_at f l p ≡ arg_names a l
arg_names_at f p a Requires s le = ap (λ (b : Arg). b.requires) (stands_getD f.args p a blank_arg s)
arg_names_at f p a RIfs s le = ap (λ (b : Arg). b.r_ifs) (stands_getD f.args p a blank_arg s)
arg_names_at f p a RIfsAll s le = ap (λ (b : Arg). b.r_ifs_all) (stands_getD f.args p a blank_arg s)
arg_names_at f p a RUnless s le = ap (λ (b : Arg). b.r_unless) (stands_getD f.args p a blank_arg s)
arg_names_at f p a RUnlessAll s le = ap (λ (b : Arg). b.r_unless_all) (stands_getD f.args p a blank_arg s)
arg_names_at f p a Conflicts s le = ap (λ (b : Arg). b.conflicts) (stands_getD f.args p a blank_arg s)
arg_names_at f p a Overrides s le = ap (λ (b : Arg). b.overrides) (stands_getD f.args p a blank_arg s)
arg_names_at f p a LongAliases s le = ap (λ (b : Arg). b.long_aliases) (stands_getD f.args p a blank_arg s)
arg_names_at f p a LetterAliases s le = refl
arg_names_at f p a Members s le = absurd (omega arith)
arg_names_at f p a GroupRequires s le = absurd (omega arith)
arg_names_at f p a GroupConflicts s le = absurd (omega arith)
arg_names_at f p a SubcommandAliases s le = absurd (omega arith)
arg_names_at f p a LongFlagAliases s le = absurd (omega arith)
arg_names_at f p a LetterFlagAliases s le = refl

module _ (f : Form) where
  group_at : (p : ℕ) (g : Group) → Stands f.groups p g → get_or f.groups p blank_group ≡ g
  group_at p g = stands_getD f.groups p g blank_group

  -- the item that such a breach points at
  named : (r : Rule) (e : Entry) (l : ItemList) (k : ℕ) (x : Name) → Stands (names_at f l e.place) k x → MissingName f (of_item r e l k) x
  named r e l k x s = (e, l, refl, refl, s)

  named_is : (r : Rule) (e : Entry) (l : ItemList) (k : ℕ) (x : Name) → MissingName f (of_item r e l k) x → Stands (names_at f l e.place) k x
  named_is r e l k x (d, i, q, u, s) = let y : d ≡ e = cc in let z : i ≡ l = cc in subst₂ (λ (w : Entry) (v : ItemList). Stands (names_at f v w.place) k x) y z s

  pub lack_named : (b : Breach) → Lack f b → (x : Name) × MissingName f b x
  lack_named _ (reference p a l k x s n t m) = (x, named MissingReference (argument p) l k x (ap (λ xs. slice_get xs k) (arg_names_at f p a l s n) ∙ t))
  lack_named _ (member p g k x s t m) = (x, named MissingMember (group p) Members k x (ap (λ (h : Group). slice_get h.members k) (group_at p g s) ∙ t))
  lack_named _ (requirement p g k x s t m) = (x, named MissingGroupRequirement (group p) GroupRequires k x (ap (λ (h : Group). slice_get h.requires k) (group_at p g s) ∙ t))
  lack_named _ (conflict p g k x s t m) = (x, named MissingGroupConflict (group p) GroupConflicts k x (ap (λ (h : Group). slice_get h.conflicts k) (group_at p g s) ∙ t))

module _ (f g : Form) (to : EntryKind → ℕ → ℕ) (x : Name) (no_arg : NoArg f x → NoArg g x) (still_missing : Missing f x → Missing g x) where
  -- a group's item at both places
  group_item : (items : Group → List Name) (p : ℕ) (c : Group) (k : ℕ) → Stands f.groups p c → Stands g.groups (to kind.Group p) c → Stands (items (get_or f.groups p blank_group)) k x
      → Stands (items c) k x × Stands (items (get_or g.groups (to kind.Group p) blank_group)) k x
  group_item items p c k s t u =
      let v = ap (λ (h : Group). slice_get (items h) k) (sym (group_at f p c s)) ∙ u in
      (v, ap (λ (h : Group). slice_get (items h) k) (group_at g (to kind.Group p) c t) ∙ v)

  pub lack_moved : (b : Breach) → Lack f b → Moved f g to b.first → MissingName f b x → Breaks g (moved to b) × MissingName g (moved to b) x
  lack_moved _ (reference p a l k y s n t m) one at =
      let q = to kind.Argument p in
      let u : Stands (arg_names a l) k x = ap (λ xs. slice_get xs k) (sym (arg_names_at f p a l s n)) ∙ named_is f MissingReference (argument p) l k x at in
      let e : y ≡ x = cc in (
        rule_25 q a l k x (one a s) n u (still_missing (subst (Missing f) e m)),
        named g MissingReference (argument q) l k x (ap (λ xs. slice_get xs k) (arg_names_at g q a l (one a s) n) ∙ u),
      )
  lack_moved _ (member p c k y s t m) one at =
      let (u, v) = group_item (λ h. h.members) p c k s (one c s) (named_is f MissingMember (group p) Members k x at) in
      let e : y ≡ x = cc in
      (rule_33 (to kind.Group p) c k x (one c s) u (no_arg (subst (NoArg f) e m)), named g MissingMember (group (to kind.Group p)) Members k x v)
  lack_moved _ (requirement p c k y s t m) one at =
      let (u, v) = group_item (λ h. h.requires) p c k s (one c s) (named_is f MissingGroupRequirement (group p) GroupRequires k x at) in
      let e : y ≡ x = cc in
      (rule_34 (to kind.Group p) c k x (one c s) u (still_missing (subst (Missing f) e m)), named g MissingGroupRequirement (group (to kind.Group p)) GroupRequires k x v)
  lack_moved _ (conflict p c k y s t m) one at =
      let (u, v) = group_item (λ h. h.conflicts) p c k s (one c s) (named_is f MissingGroupConflict (group p) GroupConflicts k x at) in
      let e : y ≡ x = cc in
      (rule_35 (to kind.Group p) c k x (one c s) u (still_missing (subst (Missing f) e m)), named g MissingGroupConflict (group (to kind.Group p)) GroupConflicts k x v)
