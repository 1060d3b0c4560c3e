-- A book keeps the entries of another whose marks are free, and with them the breaches that name no other entry.
use Rattle.std.proofs.Common.{◌≡◌, ℕ, zero, suc, ◌<◌, true, List, [], ◌∷◌, map, Some, None, Option, sym, refl, ap, ◌∙◌, subst, inl, inr}
use Rattle.form.specs.Model.{Name, Arg}
use Rattle.form.specs.Model as model
use Rattle.form.specs.Shown.{ArgRecord, SubcommandRecord}
use Rattle.form.specs.declared.lists.EntryKind.{EntryKind}
use Rattle.form.specs.declared.lists.EntryKind.TheVariants.{Argument, Group, Subcommand}
use Rattle.form.specs.declared.lists.ItemList.{ItemList}
use Rattle.form.specs.declared.lists.ItemList.TheVariants.{Requires, RIfs, RIfsAll, RUnless, RUnlessAll, Conflicts, Overrides, LongAliases, LetterAliases, Members, GroupRequires, GroupConflicts, SubcommandAliases, LongFlagAliases, LetterFlagAliases}
use Rattle.rules.specs.declared.breach.Entry.{Entry}
use Rattle.rules.specs.declared.breach.Breach.{Breach}
use Rattle.rules.specs.Order.{Stands}
use Rattle.rules.specs.Words.{ArgNamed, GroupNamed, NoArg, Missing}
use Rattle.rules.specs.Breaks.{Breaks}
use Rattle.rules.specs.Laws.{missing, class, local, move, moved, MovedAt, Moved, InOrder}
use Rattle.rules.proofs.Spots.{nothing}
use Rattle.rules.proofs.Moves.{moved_law}
use Rattle.calls.specs.Marked.{Marked, MarkedForm, names_in, letters_in, arg_entry, group_entry, subcommand_entry, form_of}
use Rattle.calls.specs.Law.{Bears, MarkAt, MarkedEntry, ToldEntry, MarkedBreach, Told, Names, MissingName, HasId}
use Rattle.calls.proofs.Tables.{Keeps}
use Rattle.calls.proofs.Lacking.{lacking, lack_moved}

-- each entry of m whose mark is free stands in n, with its items, at the place `to`
pub record Carries (free : ℕ → Type 0) (m n : MarkedForm) : Type 0 where
  pub to : EntryKind → ℕ → ℕ
  pub args : Keeps free m.args n.args (to Argument)
  pub groups : Keeps free m.groups n.groups (to Group)
  pub subcommands : Keeps free m.subcommands n.subcommands (to Subcommand)
  pub names : (k : ℕ) (l : ItemList) → free k → names_in k l m.rows ≡ names_in k l n.rows
  pub letters : (k : ℕ) (l : ItemList) → free k → letters_in k l m.rows ≡ letters_in k l n.rows

-- the marks that a breach names are free
abbrev pub AllFree : (ℕ → Type 0) → MarkedBreach → Type 0
AllFree free t = (k : ℕ) → Names t k → free k

-- t tells a breach of the book
abbrev pub Holds : MarkedBreach → MarkedForm → Type 0
Holds t m = (b : Breach) × Breaks (form_of m) b × Told m b t

-- t tells a breach of the book, with the missing name x
abbrev pub HoldsMissing : MarkedBreach → Name → MarkedForm → Type 0
HoldsMissing t x m = (b : Breach) × Breaks (form_of m) b × (Told m b t × MissingName (form_of m) b x)

-- the marks of the entries with the id x are free
abbrev pub IdFree : (ℕ → Type 0) → MarkedForm → Name → Type 0
IdFree free m x = (k : ℕ) → HasId m k x → free k

pub stands_map : {X Y : Type 0} (f : X → Y) (xs : List X) (p : ℕ) (y : Y) → Stands (map f xs) p y → (x : X) × Stands xs p x × (y ≡ f x)
stands_map f [] p y s = nothing y s
stands_map f (x ∷ xs) zero y s = (x, refl, cc)
stands_map f (x ∷ xs) (suc p) y s = stands_map f xs p y s

map_stands : {X Y : Type 0} (f : X → Y) (xs : List X) (p : ℕ) (x : X) → Stands xs p x → Stands (map f xs) p (f x)
map_stands f [] p x s = nothing x s
map_stands f (y ∷ xs) zero x s = let e : y ≡ x = cc in ap (λ z. Some (f z)) e
map_stands f (y ∷ xs) (suc p) x s = map_stands f xs p x s

-- an entry that is kept, told by its mark
table_moved : {X Y : Type 0} {free : ℕ → Type 0} {es ds : List (Marked X)} {to : ℕ → ℕ} (f g : Marked X → Y) → Keeps free es ds to → ((e : Marked X) → free e.mark → f e ≡ g e)
    → (p k : ℕ) → Bears es p k → free k → Bears ds (to p) k × ((y : Y) → Stands (map f es) p y → Stands (map g ds) (to p) y)
table_moved {free} {es} {ds} {to} f g keeps same p k (e, s, q) r =
    let u : free e.mark = subst free (sym q) r in
    let t = keeps.stays p e s u in (
      (e, t, q),
      λ y h.
          let (d, v, w) = stands_map f es p y h in
          let i : d ≡ e = cc in
          let j : y ≡ g e = w ∙ ap f i ∙ same e u in
          map_stands g ds (to p) e t ∙ ap (λ z. Some z) (sym j),
    )

table_order : {X : Type 0} {free : ℕ → Type 0} {es ds : List (Marked X)} {to : ℕ → ℕ} → Keeps free es ds to → (p q k : ℕ) → Bears es p k → free k → p < q → to p < to q
table_order {free} keeps p q k (e, s, i) r lt = keeps.order p q e s (subst free (sym i) r) lt

module _ (free : ℕ → Type 0) (m n : MarkedForm) (c : Carries free m n) where
  same_arg : (e : Marked ArgRecord) → free e.mark → arg_entry m.rows e ≡ arg_entry n.rows e
  same_arg e u =
      let x = λ (l : ItemList). c.names e.mark l u in
      cc (x Requires, x RIfs, x RIfsAll, x RUnless, x RUnlessAll, x Conflicts, x Overrides, x LongAliases, c.letters e.mark LetterAliases u)

  same_group : (e : Marked Name) → free e.mark → group_entry m.rows e ≡ group_entry n.rows e
  same_group e u = let x = λ (l : ItemList). c.names e.mark l u in cc (x Members, x GroupRequires, x GroupConflicts)

  same_subcommand : (e : Marked SubcommandRecord) → free e.mark → subcommand_entry m.rows e ≡ subcommand_entry n.rows e
  same_subcommand e u = let x = λ (l : ItemList). c.names e.mark l u in cc (x SubcommandAliases, x LongFlagAliases, c.letters e.mark LetterFlagAliases u)

  at_moved : (kind : EntryKind) (p k : ℕ) → MarkAt m kind p k → free k → MarkAt n kind (c.to kind p) k × MovedAt (form_of m) (form_of n) c.to kind p
  at_moved Argument = table_moved (arg_entry m.rows) (arg_entry n.rows) c.args same_arg
  at_moved Group = table_moved (group_entry m.rows) (group_entry n.rows) c.groups same_group
  at_moved Subcommand = table_moved (subcommand_entry m.rows) (subcommand_entry n.rows) c.subcommands same_subcommand

  at_order : (kind : EntryKind) (p q k : ℕ) → MarkAt m kind p k → free k → p < q → c.to kind p < c.to kind q
  at_order Argument = table_order c.args
  at_order Group = table_order c.groups
  at_order Subcommand = table_order c.subcommands

  -- an id that is met stays met
  arg_named : (x : Name) → IdFree free m x → ArgNamed (form_of m) x → ArgNamed (form_of n) x
  arg_named x u (p, a, s, e) =
      let (d, t, q) = stands_map (arg_entry m.rows) m.args p a s in
      let i : d.of.id ≡ x = sym (ap (λ (z : Arg). z.id) q) ∙ e in
      let stays = c.args.stays p d t (u d.mark (inl (p, d, t, refl, i))) in
      (c.to Argument p, arg_entry n.rows d, map_stands (arg_entry n.rows) n.args (c.to Argument p) d stays, i)

  group_named : (x : Name) → IdFree free m x → GroupNamed (form_of m) x → GroupNamed (form_of n) x
  group_named x u (p, g, s, e) =
      let (d, t, q) = stands_map (group_entry m.rows) m.groups p g s in
      let i : d.of ≡ x = sym (ap (λ (z : model.Group). z.id) q) ∙ e in
      let stays = c.groups.stays p d t (u d.mark (inr (p, d, t, refl, i))) in
      (c.to Group p, group_entry n.rows d, map_stands (group_entry n.rows) n.groups (c.to Group p) d stays, i)

  abbrev FreeEntry : Option MarkedEntry → Type 0
  FreeEntry s = (e : MarkedEntry) → s ≡ Some e → free e.mark

  entry_moved : (o : Option Entry) (s : Option MarkedEntry) → ToldEntry m o s → FreeEntry s → ToldEntry n (move c.to o) s × Moved (form_of m) (form_of n) c.to o
  entry_moved None None h u = (tt, tt)
  entry_moved None (Some k) h u = absurd h
  entry_moved (Some e) None h u = absurd h
  entry_moved (Some e) (Some k) h u = let (t, v) = at_moved e.kind e.place k.mark h.1 (u k refl) in ((h.0, t), v)

  entries_order : (o q : Option Entry) (s r : Option MarkedEntry) → ToldEntry m o s → ToldEntry m q r → FreeEntry s → FreeEntry r → InOrder c.to o q
  entries_order None q s r h k u v = tt
  entries_order (Some d) None s r h k u v = tt
  entries_order (Some d) (Some e) None r h k u v = absurd h
  entries_order (Some d) (Some e) (Some i) None h k u v = absurd k
  entries_order (Some d) (Some e) (Some i) (Some j) h k u v = λ same. (
    at_order d.kind d.place e.place i.mark h.1 (u i refl),
    at_order d.kind e.place d.place j.mark (subst (λ (kind : EntryKind). MarkAt m kind e.place j.mark) (sym same) k.1) (v j refl),
  )

  module _ (t : MarkedBreach) (u : AllFree free t) where
    free_first : FreeEntry t.first
    free_first e q = u e.mark (inl (e, q, refl))

    free_second : FreeEntry t.second
    free_second e q = u e.mark (inr (e, q, refl))

    told_moved : (b : Breach) → Told m b t → Told n (moved c.to b) t
    told_moved b h = record {
      rule = h.rule;
      first = (entry_moved b.first t.first h.first free_first).0;
      second = (entry_moved b.second t.second h.second free_second).0;
      list = h.list;
      item = h.item;
      other = h.other;
    }

    first_moved : (b : Breach) → Told m b t → Moved (form_of m) (form_of n) c.to b.first
    first_moved b h = (entry_moved b.first t.first h.first free_first).1

    pub carried : local (class t.rule) ≡ true → Holds t m → Holds t n
    carried is (b, breaks, told) =
        let one = first_moved b told in
        let two = (entry_moved b.second t.second told.second free_second).1 in
        let order = entries_order b.first b.second t.first t.second told.first told.second free_first free_second in
        let here = ap (λ r. local (class r)) told.rule ∙ is in
        (moved c.to b, moved_law (form_of m) (form_of n) c.to b here one two order breaks, told_moved b told)

-- a name that is missing in m is missing in n, where the entries of n with that id are kept by m
module _ (free : ℕ → Type 0) (m n : MarkedForm) (c : Carries free m n) (back : Carries free n m) (t : MarkedBreach) (u : AllFree free t) (x : Name) (v : IdFree free n x) where
  pub carried_missing : class t.rule ≡ missing → HoldsMissing t x m → HoldsMissing t x n
  carried_missing is (b, breaks, (told, name)) =
      let lack = lacking (form_of m) b (ap class told.rule ∙ is) breaks in
      let none = λ (h : NoArg (form_of m) x) (k : ArgNamed (form_of n) x). h (arg_named free n m back x v k) in
      let neither = λ (h : Missing (form_of m) x). let r : Missing (form_of n) x = (none h.0, λ k. h.1 (group_named free n m back x v k)) in r in
      let (breaks', name') = lack_moved (form_of m) (form_of n) c.to x none neither b lack (first_moved free m n c t u b told) name in
      (moved c.to b, breaks', (told_moved free m n c t u b told, name'))
