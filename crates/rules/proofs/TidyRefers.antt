-- Of a form with no breach: every reference meets an entry.
use Rattle.std.proofs.Common.{◌≡◌, ℕ, ◌≤◌, ◌⊎◌, inl, inr}
use Rattle.form.specs.Model.{Name, Arg, Group, Form}
use Rattle.form.specs.Lists.{list_number, arg_names}
use Rattle.form.specs.declared.lists.ItemList.{ItemList}
use Rattle.rules.specs.declared.breach.Breach.{Breach}
use Rattle.rules.specs.Order.{Stands}
use Rattle.rules.specs.Words.{ArgNamed, GroupNamed, NoArg, Missing}
use Rattle.rules.specs.Breaks.{Breaks, rule_25, rule_33, rule_34, rule_35}
use Rattle.rules.specs.Tidy.{Named}
use Rattle.rules.proofs.TidyPlaces.{cases_name, sought}

-- an argument has the name for its id, or none has; and so for a group
cases_arg : (f : Form) (x : Name) → ArgNamed f x ⊎ NoArg f x
cases_arg f x = sought (λ (a : Arg). a.id ≡ x) (λ a. cases_name a.id x) f.args

cases_group : (f : Form) (x : Name) → GroupNamed f x ⊎ (GroupNamed f x → ⊥)
cases_group f x = sought (λ (g : Group). g.id ≡ x) (λ g. cases_name g.id x) f.groups

-- what cannot be missing is there
arg_there : (f : Form) (x : Name) → (NoArg f x → ⊥) → ArgNamed f x
arg_there f x h = elim (cases_arg f x) [ inl a ↦ a | inr n ↦ absurd (h n) ]

there : (f : Form) (x : Name) → (Missing f x → ⊥) → Named f x
there f x h = elim (cases_arg f x) [ inl a ↦ inl a | inr n ↦ elim (cases_group f x) [ inl g ↦ inr g | inr m ↦ absurd (h (n, m)) ] ]

module _ (f : Form) (none : (b : Breach) → Breaks f b → ⊥) where
  pub arg_meets : (p : ℕ) (a : Arg) (l : ItemList) (k : ℕ) (x : Name) → Stands f.args p a → list_number l ≤ 7 → Stands (arg_names a l) k x → Named f x
  arg_meets p a l k x h few s = there f x (λ m. none _ (rule_25 p a l k x h few s m))

  pub member_meets : (p : ℕ) (g : Group) (k : ℕ) (x : Name) → Stands f.groups p g → Stands g.members k x → ArgNamed f x
  member_meets p g k x h s = arg_there f x (λ m. none _ (rule_33 p g k x h s m))

  pub require_meets : (p : ℕ) (g : Group) (k : ℕ) (x : Name) → Stands f.groups p g → Stands g.requires k x → Named f x
  require_meets p g k x h s = there f x (λ m. none _ (rule_34 p g k x h s m))

  pub conflict_meets : (p : ℕ) (g : Group) (k : ℕ) (x : Name) → Stands f.groups p g → Stands g.conflicts k x → Named f x
  conflict_meets p g k x h s = there f x (λ m. none _ (rule_35 p g k x h s m))
