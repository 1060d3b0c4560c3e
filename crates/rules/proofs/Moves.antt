-- A breach of an own or a pair rule goes with the entries that it names.
use Rattle.std.proofs.Common.{◌≡◌, ℕ, suc, ◌+◌, ◌<◌, true, false, length, Some, refl, ap, inl, inr, arith}
use Rattle.std.proofs.lemmas.Bool.{both_ways}
use Rattle.form.specs.Model.{Form}
use Rattle.form.specs.declared.lists.EntryKind.{EntryKind}
use Rattle.form.specs.declared.lists.EntryKind.TheVariants.{Argument, Group, Subcommand}
use Rattle.rules.specs.declared.breach.Breach.{Breach}
use Rattle.rules.specs.Order.{Stands}
use Rattle.rules.specs.Words.{Owner, owners, Earlier}
use Rattle.rules.specs.Breaks.{Breaks, rule_1, rule_2, rule_3, rule_4, rule_5, rule_9, rule_10, rule_11, rule_12, rule_13, rule_15, rule_16, rule_17, rule_18, rule_19, rule_20, rule_21, rule_22, rule_23, rule_24, rule_25, rule_26, rule_27, rule_28, rule_31, rule_32, rule_33, rule_34, rule_35, rule_36, rule_37, rule_38, rule_39, rule_40, rule_41, rule_42, rule_43, rule_44, rule_45, rule_46, rule_47, rule_48, rule_49, rule_50, rule_51}
use Rattle.rules.specs.Laws.{class, local, moved, Moved, InOrder}
use Rattle.rules.proofs.Spots.{stands_below}
use Rattle.rules.proofs.Owners.{Owning, subcommand_at, argument_at, owner_at, subcommand_owns, argument_owns}

module _ (f g : Form) (to : EntryKind → ℕ → ℕ) where
  -- an owner at its new place
  abbrev shifted : Owner → Owner
  shifted o = record { entry = record { kind = o.entry.kind; place = to o.entry.kind o.entry.place }; id = o.id; long = o.long; long_aliases = o.long_aliases; letter = o.letter; letter_aliases = o.letter_aliases }

  -- two owners stand in g in the order in which they stand in f
  abbrev Shifted : Owner → Owner → Type 0
  Shifted o w = (i : ℕ) × (j : ℕ) × (i < j) × Stands (owners g) i (shifted o) × Stands (owners g) j (shifted w)

  owners_moved : (i j : ℕ) (o w : Owner) → i < j → Owning f i o → Owning f j w → Moved f g to (Some o.entry) → Moved f g to (Some w.entry) → InOrder to (Some o.entry) (Some w.entry) → Shifted o w
  owners_moved _ _ _ _ lt (subcommand_at p s t) (subcommand_at q r u) one two order =
      (to Subcommand p, to Subcommand q, (order refl).0 lt, subcommand_owns g (to Subcommand p) s (one s t), subcommand_owns g (to Subcommand q) r (two r u))
  owners_moved _ _ _ _ lt (subcommand_at p s t) (argument_at q a u) one two order =
      let k = stands_below g.subcommands (to Subcommand p) s (one s t) in
      (to Subcommand p, length g.subcommands + to Argument q, omega arith, subcommand_owns g (to Subcommand p) s (one s t), argument_owns g (to Argument q) a (two a u))
  owners_moved _ _ _ _ lt (argument_at p a t) (subcommand_at q s u) one two order = absurd (let k = stands_below f.subcommands q s u in omega arith)
  owners_moved _ _ _ _ lt (argument_at p a t) (argument_at q c u) one two order =
      let k : to Argument p < to Argument q = (order refl).0 (omega arith) in
      (length g.subcommands + to Argument p, length g.subcommands + to Argument q, omega arith, argument_owns g (to Argument p) a (one a t), argument_owns g (to Argument q) c (two c u))

  earlier_moved : (p q m k : ℕ) → (q < p → to Subcommand q < to Subcommand p) → Earlier q m p k → Earlier (to Subcommand q) m (to Subcommand p) k
  earlier_moved p q m k order (inl lt) = inl (order lt)
  earlier_moved p q m k order (inr (e, lt)) = inr (ap (to Subcommand) e, lt)

  far : {P : Type 0} → false ≡ true → P
  far h = absurd (both_ways false refl h)

  pub moved_law : (b : Breach) → local (class b.rule) ≡ true → Moved f g to b.first → Moved f g to b.second → InOrder to b.first b.second → Breaks f b → Breaks g (moved to b)
  moved_law _ is one two order (rule_1 h k) = far is
  moved_law _ is one two order (rule_2 p a s h k) = far is
  moved_law _ is one two order (rule_3 p s x t e d) = rule_3 (to Subcommand p) s x (one s t) e d
  moved_law _ is one two order (rule_4 p a k s t) = rule_4 (to Argument p) a k (one a s) t
  moved_law _ is one two order (rule_5 p a s h) = rule_5 (to Argument p) a (one a s) h
  moved_law _ is one two order (rule_9 p a s h k) = rule_9 (to Argument p) a (one a s) h k
  moved_law _ is one two order (rule_10 p a s h) = rule_10 (to Argument p) a (one a s) h
  moved_law _ is one two order (rule_11 p a s h k) = rule_11 (to Argument p) a (one a s) h k
  moved_law _ is one two order (rule_12 p a s h k) = rule_12 (to Argument p) a (one a s) h k
  moved_law _ is one two order (rule_13 p a s h) = rule_13 (to Argument p) a (one a s) h
  moved_law _ is one two order (rule_15 p a s h k) = rule_15 (to Argument p) a (one a s) h k
  moved_law _ is one two order (rule_16 p a t s z o h) = rule_16 (to Argument p) a t (one a s) z o h
  moved_law _ is one two order (rule_17 p a s h) = far is
  moved_law _ is one two order (rule_18 p a x s e d) = rule_18 (to Argument p) a x (one a s) e d
  moved_law _ is one two order (rule_19 p q a o lt s t e) = rule_19 (to Argument p) (to Argument q) a o ((order refl).0 lt) (one a s) (two o t) e
  moved_law _ is one two order (rule_20 p q a o x lt s t e d) = rule_20 (to Argument p) (to Argument q) a o x ((order refl).0 lt) (one a s) (two o t) e d
  moved_law _ is one two order (rule_21 p q a o c lt s t e d) = rule_21 (to Argument p) (to Argument q) a o c ((order refl).0 lt) (one a s) (two o t) e d
  moved_law _ is one two order (rule_22 p q a o n lt s t x y i j) = rule_22 (to Argument p) (to Argument q) a o n ((order refl).0 lt) (one a s) (two o t) x y i j
  moved_law _ is one two order (rule_23 p a k s t) = rule_23 (to Argument p) a k (one a s) t
  moved_law _ is one two order (rule_24 p a l k x s lo hi t r) = rule_24 (to Argument p) a l k x (one a s) lo hi t r
  moved_law _ is one two order (rule_25 p a l k x s n t m) = far is
  moved_law _ is one two order (rule_26 p a s h k) = rule_26 (to Argument p) a (one a s) h k
  moved_law _ is one two order (rule_27 p a s h k) = rule_27 (to Argument p) a (one a s) h k
  moved_law _ is one two order (rule_28 p a s h k) = rule_28 (to Argument p) a (one a s) h k
  moved_law _ is one two order (rule_31 p q c d lt s t e) = rule_31 (to Group p) (to Group q) c d ((order refl).0 lt) (one c s) (two d t) e
  moved_law _ is one two order (rule_32 p q c a s t e) = rule_32 (to Group p) (to Argument q) c a (one c s) (two a t) e
  moved_law _ is one two order (rule_33 p c k x s t m) = far is
  moved_law _ is one two order (rule_34 p c k x s t m) = far is
  moved_law _ is one two order (rule_35 p c k x s t m) = far is
  moved_law _ is one two order (rule_36 i j o w k m x lt s t u v d) = let (n, l, z, y, r) = owners_moved i j o w lt (owner_at f i o s) (owner_at f j w t) one two order in rule_36 n l (shifted o) (shifted w) k m x z y r u v d
  moved_law _ is one two order (rule_37 i j o w k m c lt s t u v d) = let (n, l, z, y, r) = owners_moved i j o w lt (owner_at f i o s) (owner_at f j w t) one two order in rule_37 n l (shifted o) (shifted w) k m c z y r u v d
  moved_law _ is one two order (rule_38 p q m x (s, t, u) (r, v, w) e) = rule_38 (to Subcommand p) (to Subcommand q) m x (s, one s t, u) (r, two r v, w) (earlier_moved p q m 0 (order refl).1 e)
  moved_law _ is one two order (rule_39 p k q m x (s, t, u) (r, v, w) e) = rule_39 (to Subcommand p) k (to Subcommand q) m x (s, one s t, u) (r, two r v, w) (earlier_moved p q m (suc k) (order refl).1 e)
  moved_law _ is one two order (rule_40 h a n) = far is
  moved_law _ is one two order (rule_41 p a h s t x e l) = far is
  moved_law _ is one two order (rule_42 p a h s t x e l) = far is
  moved_law _ is one two order (rule_43 p a h s t x n) = far is
  moved_law _ is one two order (rule_44 p q l s e x y z t) = far is
  moved_law _ is one two order (rule_45 p q l s e x y) = far is
  moved_law _ is one two order (rule_46 p q l s i j e lt x y n) = far is
  moved_law _ is one two order (rule_47 n p a m q o lo lt le x l y r z) = far is
  moved_law _ is one two order (rule_48 p q a o lt s t x y z u) = rule_48 (to Argument p) (to Argument q) a o ((order refl).0 lt) (one a s) (two o t) x y z u
  moved_law _ is one two order (rule_49 p a c s x r l t n) = far is
  moved_law _ is one two order (rule_50 m n) = far is
  moved_law _ is one two order (rule_51 h) = far is
