use Rattle.std.proofs.Common.{◌-◌, Some, ap, ◌∙◌, arith}
use Rattle.survey.specs.FlagOwners.{owner_in}
use Rattle.survey.proofs.Clashes.{same_mapped, same_absent, flag_alias, flag_past}
use Rattle.survey.proofs.flag_kinds.flag.Goals as goal

pub returns-then-number-alias_count : goal.returns-then-number-alias_count
returns-then-number-alias_count g c =
    let k = g.K.FlagKind in
    let o = owner_in (k.form c.args.kind.now) c.args.owner in
    let n = c.args.number in
    record {
      alike = λ x. same_mapped g.K.Flag.PartialEq.eq k.same k.plain c.alias.ensures.alike x (Some c.alias.result);
      value = ap (λ y. Some y) c.alias.ensures.value ∙ flag_alias (k.own o) (k.aliases o) n (n - 1) k.blank (omega arith) (omega arith);
    }

pub returns-else-number-alias_count : goal.returns-else-number-alias_count
returns-else-number-alias_count g c =
    let k = g.K.FlagKind in
    let o = owner_in (k.form c.args.kind.now) c.args.owner in
    let n = c.args.number in
    record {
      alike = same_absent g.K.Flag.PartialEq.eq k.same k.plain;
      value = flag_past (k.own o) (k.aliases o) n (n - 1) (omega arith) (omega arith);
    }
