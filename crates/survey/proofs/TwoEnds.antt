-- What the two ends of the positions tell.
use Rattle.std.proofs.Common.{◌≡◌, ℕ, Bool, List, [], ◌∷◌, ap, ◌∙◌, append-nil}
use Rattle.form.specs.Model.{Arg, Form}
use Rattle.form.specs.Shown.{ArgRecord, arg_record}
use Rattle.rules.specs.declared.rule.Rule.{Rule}
use Rattle.rules.specs.declared.rule.Rule.TheVariants.{OpenBeforeOptional, MultipleElsewhere, TooManyMultiple}
use Rattle.rules.specs.declared.breach.Breach.{Breach}
use Rattle.rules.specs.declared.breach.Entry.{Entry}
use Rattle.rules.specs.Order.{blocks, when}
use Rattle.rules.specs.Told.{argument, of_two}
use Rattle.rules.specs.Rows.{arg_of, ends, at_ends, open_before_optional, multiple_low, too_many_wide}
use Rattle.rules.specs.Report.{section_report}
use Rattle.looks.specs.Records.{bare}
use Rattle.survey.specs.Ends.{end_told, ends_told, ends_report}

-- what was offered of two views is told of the arguments that they show
pub end_offered : {S : Type 0} (after : S → List Breach → S → Type 0) (s t : S) (r : Rule) (test : Form → Arg → Arg → Bool) (f : Form) (p q : ℕ) (v w : ArgRecord) (e d : Entry) (b : Bool) (x : Breach)
    → b ≡ test f (bare v) (bare w) → v ≡ arg_record (arg_of f p) → w ≡ arg_record (arg_of f q) → e ≡ argument p → d ≡ argument q → x ≡ of_two r e d
    → test f (bare (arg_record (arg_of f p))) (bare (arg_record (arg_of f q))) ≡ test f (arg_of f p) (arg_of f q)
    → after s (when b x) t → after s (end_told r test f p q) t
end_offered after s t r test f p q v w e d b x is vs ws es ds xs bare_same a =
    let tested : b ≡ test f (arg_of f p) (arg_of f q) = (is ∙ ap (λ y. test f (bare y) (bare w)) vs ∙ ap (λ y. test f (bare (arg_record (arg_of f p))) (bare y)) ws) ∙ bare_same in
    let breach : x ≡ of_two r (argument p) (argument q) = xs ∙ ap (λ y. of_two r y d) es ∙ ap (λ y. of_two r (argument p) y) ds in
    rw (← tested, ← breach) a

section_one : (f : Form) (r : Rule) (test : Form → Arg → Arg → Bool) (p q : ℕ) → (p, q) ∷ [] ≡ ends f → section_report f (at_ends r test) ≡ end_told r test f p q
unfolding blocks
section_one f r test p q e = rw (← e) (append-nil (end_told r test f p q))

section_none : (f : Form) (r : Rule) (test : Form → Arg → Arg → Bool) → [] ≡ ends f → section_report f (at_ends r test) ≡ []
unfolding blocks
section_none f r test e = rw (← e)

pub ends_one : (f : Form) (p q : ℕ) → (p, q) ∷ [] ≡ ends f → ends_report f ≡ ends_told f p q
ends_one f p q e = rw (section_one f OpenBeforeOptional open_before_optional p q e, section_one f MultipleElsewhere multiple_low p q e, section_one f TooManyMultiple too_many_wide p q e)

pub ends_none : (f : Form) → [] ≡ ends f → ends_report f ≡ []
ends_none f e = rw (section_none f OpenBeforeOptional open_before_optional e, section_none f MultipleElsewhere multiple_low e, section_none f TooManyMultiple too_many_wide e)
