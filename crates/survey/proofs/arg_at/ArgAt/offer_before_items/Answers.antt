use Rattle.rules.specs.Rows.{own_conflict, own_bit, names_itself, setting_without_value}
use Rattle.rules.specs.declared.rule.Rule.TheVariants.{ConflictsWithItself, SettingWithoutValue}
use Rattle.survey.proofs.Tables.{row_alone, before_told}
use Rattle.sinks.proofs.Walks.{then_more, then_stop}
use Rattle.survey.proofs.arg_at.ArgAt.offer_before_items.Goals as goal

pub returns-in_err-offer_own_conflicts-clause-took : goal.returns-in_err-offer_own_conflicts-clause-took
returns-in_err-offer_own_conflicts-clause-took g c =
    let k = g.S.Sink in
    let f = g.F.FormSource.form c.args.self.now.form.now in
    let p = c.args.self.now.place in
    rw (before_told f p) (then_stop k _ _ (row_alone k.after _ _ f p (own_conflict ConflictsWithItself names_itself) c.offer_own_conflicts.ensures.took) c.in_err-offer_own_conflicts.ensures.goes)

pub returns-in_err-offer_value_rules-clause-took : goal.returns-in_err-offer_value_rules-clause-took
returns-in_err-offer_value_rules-clause-took g c =
    let k = g.S.Sink in
    let f = g.F.FormSource.form c.args.self.now.form.now in
    let p = c.args.self.now.place in
    rw (before_told f p) (then_more k _ _ (row_alone k.after _ _ f p (own_conflict ConflictsWithItself names_itself) c.offer_own_conflicts.ensures.took) (then_stop k _ _ c.offer_value_rules.ensures.took c.in_err-offer_value_rules.ensures.goes))

pub returns-in_err-offer_value_settings-clause-took : goal.returns-in_err-offer_value_settings-clause-took
returns-in_err-offer_value_settings-clause-took g c =
    let k = g.S.Sink in
    let f = g.F.FormSource.form c.args.self.now.form.now in
    let p = c.args.self.now.place in
    rw (before_told f p) (then_more k _ _ (row_alone k.after _ _ f p (own_conflict ConflictsWithItself names_itself) c.offer_own_conflicts.ensures.took) (then_more k _ _ c.offer_value_rules.ensures.took (then_stop k _ _ (row_alone k.after _ _ f p (own_bit SettingWithoutValue setting_without_value) c.offer_value_settings.ensures.took) c.in_err-offer_value_settings.ensures.goes)))

pub returns-in_err-offer_name_rules-clause-took : goal.returns-in_err-offer_name_rules-clause-took
returns-in_err-offer_name_rules-clause-took g c =
    let k = g.S.Sink in
    let f = g.F.FormSource.form c.args.self.now.form.now in
    let p = c.args.self.now.place in
    rw (before_told f p) (then_more k _ _ (row_alone k.after _ _ f p (own_conflict ConflictsWithItself names_itself) c.offer_own_conflicts.ensures.took) (then_more k _ _ c.offer_value_rules.ensures.took (then_more k _ _ (row_alone k.after _ _ f p (own_bit SettingWithoutValue setting_without_value) c.offer_value_settings.ensures.took) (then_stop k _ _ c.offer_name_rules.ensures.took c.in_err-offer_name_rules.ensures.goes))))

pub returns-clause-took : goal.returns-clause-took
returns-clause-took g c =
    let k = g.S.Sink in
    let f = g.F.FormSource.form c.args.self.now.form.now in
    let p = c.args.self.now.place in
    rw (before_told f p) (then_more k _ _ (row_alone k.after _ _ f p (own_conflict ConflictsWithItself names_itself) c.offer_own_conflicts.ensures.took) (then_more k _ _ c.offer_value_rules.ensures.took (then_more k _ _ (row_alone k.after _ _ f p (own_bit SettingWithoutValue setting_without_value) c.offer_value_settings.ensures.took) (then_more k _ _ c.offer_name_rules.ensures.took c.offer_twins.ensures.took))))
