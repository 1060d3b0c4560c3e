-- Of a form with no breach: an id is one entry's, a name one subcommand's, a flag one owner's.
use Rattle.std.proofs.Common.{◌≡◌, ℕ, zero, suc, ◌+◌, ◌<◌, ◌⊎◌, length, Some, sym, refl, ap, ◌∙◌, inl, inr, arith}
use Rattle.form.specs.Model.{Name, Arg, Group, Subcommand, Form}
use Rattle.form.specs.declared.lists.EntryKind.TheVariants as kind
use Rattle.rules.specs.declared.breach.Breach.{Breach}
use Rattle.rules.specs.Order.{Stands, each}
use Rattle.rules.specs.Words.{ArgNamed, GroupNamed, Owner, of_subcommand, of_argument, owners, Differ, Called, Earlier}
use Rattle.rules.specs.Breaks.{Breaks, rule_19, rule_31, rule_32, rule_36, rule_37, rule_38, rule_39}
use Rattle.rules.specs.Tidy.{HasLong, HasLetter}
use Rattle.rules.proofs.TidyPlaces.{one_place, stands_right, stands_split, each_in, each_out, length_each}

-- who stands at i among the owners: subcommand i, or argument i less the number of subcommands
abbrev IsSubcommand : Form → ℕ → Owner → Type 0
IsSubcommand f i o = (s : Subcommand) × Stands f.subcommands i s × (o ≡ of_subcommand i s)

abbrev IsArgument : Form → ℕ → Owner → Type 0
IsArgument f i o = (p : ℕ) × (a : Arg) × Stands f.args p a × (o ≡ of_argument p a) × (i ≡ length f.subcommands + p)

owner_is : (f : Form) (i : ℕ) (o : Owner) → Stands (owners f) i o → IsSubcommand f i o ⊎ IsArgument f i o
owner_is f i o h = elim (stands_split (each of_subcommand 0 f.subcommands) (each of_argument 0 f.args) i o h) [
  | inl l ↦ (let r = each_out of_subcommand 0 f.subcommands i o l in let m : r.0 ≡ i = omega arith in inl (r.1, r.2, r.4 ∙ ap (λ p. of_subcommand p r.1) m))
  | inr l ↦ (let r = each_out of_argument 0 f.args l.0 o l.1 in let m : r.0 ≡ l.0 = omega arith in inr (l.0, r.1, r.2, r.4 ∙ ap (λ p. of_argument p r.1) m, l.2 ∙ ap (λ n. n + l.0) (length_each of_subcommand 0 f.subcommands)))
]

-- the argument at p stands among the owners, after the subcommands
pub argument_owns : (f : Form) (p : ℕ) (a : Arg) → Stands f.args p a → Stands (owners f) (length f.subcommands + p) (of_argument p a)
argument_owns f p a h = stands_right _ _ p _ (of_argument p a) (each_in of_argument 0 p f.args p a h (omega arith)) (ap (λ n. n + p) (sym (length_each of_subcommand 0 f.subcommands)))

module _ (f : Form) (none : (b : Breach) → Breaks f b → ⊥) where
  pub one_id : (p q : ℕ) (a b : Arg) → Stands f.args p a → Stands f.args q b → a.id ≡ b.id → p ≡ q
  one_id p q a b h k e = one_place p q (λ lt. none _ (rule_19 p q a b lt h k e)) (λ lt. none _ (rule_19 q p b a lt k h (sym e)))

  pub one_group : (p q : ℕ) (g h : Group) → Stands f.groups p g → Stands f.groups q h → g.id ≡ h.id → p ≡ q
  one_group p q g h s t e = one_place p q (λ lt. none _ (rule_31 p q g h lt s t e)) (λ lt. none _ (rule_31 q p h g lt t s (sym e)))

  pub not_both : (x : Name) → ArgNamed f x → GroupNamed f x → ⊥
  not_both x a g = none _ (rule_32 g.0 a.0 g.1 a.1 g.2 a.2 (g.3 ∙ sym a.3))

  -- no name or alias comes earlier
  first_called : (x : Name) (p k q m : ℕ) → Called f p k x → Called f q m x → Earlier q m p k → ⊥
  first_called x p zero q m h l e = none _ (rule_38 p q m x h l e)
  first_called x p (suc k) q m h l e = none _ (rule_39 p k q m x h l e)

  pub one_name : (x : Name) (p k q m : ℕ) → Called f p k x → Called f q m x → (p ≡ q) × (k ≡ m)
  one_name x p k q m h l =
      let e : p ≡ q = one_place p q (λ lt. first_called x q m p k l h (inl lt)) (λ lt. first_called x p k q m h l (inl lt)) in
      (e, one_place k m (λ lt. first_called x q m p k l h (inr (e, lt))) (λ lt. first_called x p k q m h l (inr (sym e, lt))))

  -- owners of one kind and one id are one
  one_owner : (i j : ℕ) (o w : Owner) → Stands (owners f) i o → Stands (owners f) j w → o.entry.kind ≡ w.entry.kind → o.id ≡ w.id → i ≡ j
  one_owner i j o w h l t e = same (owner_is f i o h) (owner_is f j w l)
    where
      named : (v : Owner) (p : ℕ) (s : Subcommand) → v ≡ of_subcommand p s → s.name ≡ v.id
      named v p s d = sym (ap (λ (u : Owner). u.id) d)

      known : (v : Owner) (p : ℕ) (a : Arg) → v ≡ of_argument p a → a.id ≡ v.id
      known v p a d = sym (ap (λ (u : Owner). u.id) d)

      apart : (u v : Owner) (p q : ℕ) (s : Subcommand) (a : Arg) → u ≡ of_subcommand p s → v ≡ of_argument q a → u.entry.kind ≡ v.entry.kind → ⊥
      apart u v p q s a c d t =
          let k : kind.Subcommand ≡ kind.Argument = sym (ap (λ (u : Owner). u.entry.kind) c) ∙ t ∙ ap (λ (u : Owner). u.entry.kind) d in
          let z : ◌≡◌ {A = ℕ} 0 1 = cc in omega arith

      same : IsSubcommand f i o ⊎ IsArgument f i o → IsSubcommand f j w ⊎ IsArgument f j w → i ≡ j
      same (inl x) (inl y) = (one_name o.id i 0 j 0 (x.0, x.1, inl (refl, ap (λ n. Some n) (named o i x.0 x.2))) (y.0, y.1, inl (refl, ap (λ n. Some n) (named w j y.0 y.2 ∙ sym e)))).0
      same (inl x) (inr y) = absurd (apart o w i y.0 x.0 y.1 x.2 y.3 t)
      same (inr x) (inl y) = absurd (apart w o j x.0 y.0 x.1 y.2 x.3 (sym t))
      same (inr x) (inr y) = let d = one_id x.0 y.0 x.1 y.1 x.2 y.2 (known o x.0 x.1 x.3 ∙ e ∙ sym (known w y.0 y.1 y.3)) in omega arith

  -- so owners at two places differ
  unlike : (i j : ℕ) (o w : Owner) → Stands (owners f) i o → Stands (owners f) j w → i < j → Differ o w
  unlike i j o w h l lt s = let e = one_owner i j o w h l s.0 s.1 in omega arith

  pub one_long : (x : Name) (i j : ℕ) → HasLong f x i → HasLong f x j → i ≡ j
  one_long x i j h l = one_place i j (apart i j h l) (apart j i l h)
    where
      apart : (i j : ℕ) → HasLong f x i → HasLong f x j → i < j → ⊥
      apart i j h l lt = none _ (rule_36 i j h.0 l.0 h.1 l.1 x lt h.2 l.2 h.3 l.3 (unlike i j h.0 l.0 h.2 l.2 lt))

  pub one_letter : (c i j : ℕ) → HasLetter f c i → HasLetter f c j → i ≡ j
  one_letter c i j h l = one_place i j (apart i j h l) (apart j i l h)
    where
      apart : (i j : ℕ) → HasLetter f c i → HasLetter f c j → i < j → ⊥
      apart i j h l lt = none _ (rule_37 i j h.0 l.0 h.1 l.1 c lt h.2 l.2 h.3 l.3 (unlike i j h.0 l.0 h.2 l.2 lt))
