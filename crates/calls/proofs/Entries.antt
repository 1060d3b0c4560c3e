-- The entries that a breach names stand in the form, so that in a book they have marks.
use Rattle.std.proofs.Common.{ℕ, Some, None, Option}
use Rattle.form.specs.Model.{Arg, Form}
use Rattle.form.specs.Model as model
use Rattle.form.specs.declared.lists.EntryKind.{EntryKind}
use Rattle.form.specs.declared.lists.EntryKind.TheVariants.{Argument, Group, Subcommand}
use Rattle.rules.specs.declared.breach.Entry.{Entry}
use Rattle.rules.specs.declared.breach.Breach.{Breach}
use Rattle.rules.specs.Order.{Stands}
use Rattle.rules.specs.Words.{Owner, owners}
use Rattle.rules.specs.Breaks.{Breaks, rule_1, rule_2, rule_3, rule_4, rule_5, rule_9, rule_10, rule_11, rule_12, rule_13, rule_15, rule_16, rule_17, rule_18, rule_19, rule_20, rule_21, rule_22, rule_23, rule_24, rule_25, rule_26, rule_27, rule_28, rule_31, rule_32, rule_33, rule_34, rule_35, rule_36, rule_37, rule_38, rule_39, rule_40, rule_41, rule_42, rule_43, rule_44, rule_45, rule_46, rule_47, rule_48, rule_49, rule_50, rule_51}
use Rattle.rules.proofs.Owners.{Owning, subcommand_at, argument_at, owner_at}

-- an entry of the form
abbrev pub StandingAt : Form → EntryKind → ℕ → Type 0
StandingAt f Argument p = (a : Arg) × Stands f.args p a
StandingAt f Group p = (g : model.Group) × Stands f.groups p g
StandingAt f Subcommand p = (s : model.Subcommand) × Stands f.subcommands p s

abbrev pub Standing : Form → Option Entry → Type 0
Standing f None = Unit {0}
Standing f (Some e) = StandingAt f e.kind e.place

owner_stands : (f : Form) (i : ℕ) (o : Owner) → Stands (owners f) i o → StandingAt f o.entry.kind o.entry.place
owner_stands f i o s = at i o (owner_at f i o s)
  where
    at : (i : ℕ) (o : Owner) → Owning f i o → StandingAt f o.entry.kind o.entry.place
    at _ _ (subcommand_at p c t) = (c, t)
    at _ _ (argument_at p a t) = (a, t)

module _ (f : Form) where
  pub standing : (b : Breach) → Breaks f b → Standing f b.first × Standing f b.second
  standing _ (rule_1 s t) = (tt, tt)
  standing _ (rule_2 p a s t u) = ((a, s), tt)
  standing _ (rule_3 p s x t u v) = ((s, t), tt)
  standing _ (rule_4 p a k s t) = ((a, s), tt)
  standing _ (rule_5 p a s t) = ((a, s), tt)
  standing _ (rule_9 p a s t u) = ((a, s), tt)
  standing _ (rule_10 p a s t) = ((a, s), tt)
  standing _ (rule_11 p a s t u) = ((a, s), tt)
  standing _ (rule_12 p a s t u) = ((a, s), tt)
  standing _ (rule_13 p a s t) = ((a, s), tt)
  standing _ (rule_15 p a s t u) = ((a, s), tt)
  standing _ (rule_16 p a s t u v w) = ((a, t), tt)
  standing _ (rule_17 p a s t) = ((a, s), tt)
  standing _ (rule_18 p a x s t u) = ((a, s), tt)
  standing _ (rule_19 p q a b s t u v) = ((a, t), (b, u))
  standing _ (rule_20 p q a b x s t u v w) = ((a, t), (b, u))
  standing _ (rule_21 p q a b c s t u v w) = ((a, t), (b, u))
  standing _ (rule_22 p q a b i s t u v w y z) = ((a, t), (b, u))
  standing _ (rule_23 p a k s t) = ((a, s), tt)
  standing _ (rule_24 p a l k x s t u v w) = ((a, s), tt)
  standing _ (rule_25 p a l k x s t u v) = ((a, s), tt)
  standing _ (rule_26 p a s t u) = ((a, s), tt)
  standing _ (rule_27 p a s t u) = ((a, s), tt)
  standing _ (rule_28 p a s t u) = ((a, s), tt)
  standing _ (rule_31 p q g h s t u v) = ((g, t), (h, u))
  standing _ (rule_32 p q g a s t u) = ((g, s), (a, t))
  standing _ (rule_33 p g k x s t u) = ((g, s), tt)
  standing _ (rule_34 p g k x s t u) = ((g, s), tt)
  standing _ (rule_35 p g k x s t u) = ((g, s), tt)
  standing _ (rule_36 i j o w k m x lt s t u v d) = (owner_stands f i o s, owner_stands f j w t)
  standing _ (rule_37 i j o w k m c lt s t u v d) = (owner_stands f i o s, owner_stands f j w t)
  standing _ (rule_38 p q m x (s, t, u) (r, v, w) e) = ((s, t), (r, v))
  standing _ (rule_39 p k q m x (s, t, u) (r, v, w) e) = ((s, t), (r, v))
  standing _ (rule_40 h s t) = (tt, tt)
  standing _ (rule_41 p a h s t u v w) = ((a, s), tt)
  standing _ (rule_42 p a h s t u v w) = ((a, s), tt)
  standing _ (rule_43 p a h s t u v) = ((a, s), tt)
  standing _ (rule_44 p q l s e x y z t) = ((l, e.end.stands), (s, e.before.stands))
  standing _ (rule_45 p q l s e x y) = ((l, e.end.stands), (s, e.before.stands))
  standing _ (rule_46 p q l s i j e lt x y n) = ((l, e.end.stands), (s, e.before.stands))
  standing _ (rule_47 n p a m q o lo lt le x l y r z) = ((a, x.stands), tt)
  standing _ (rule_48 p q a b s t u v w y z) = ((a, t), (b, u))
  standing _ (rule_49 p a s t u v w y z) = ((a, t), tt)
  standing _ (rule_50 s t) = (tt, tt)
  standing _ (rule_51 s) = (tt, tt)
