use Rattle.std.proofs.Common.{rules, ◌≡◌, true, false, get_or}
use borrow.Author.Tests.{tests}
use Rattle.std.proofs.lemmas.Iterator.{first_from_Range}
use Rattle.form.specs.Model.{blank_arg}
use Rattle.rules.specs.Rows.{is_number}
use Rattle.survey.proofs.Searches.{first_place}
use Rattle.survey.proofs.positions.first_at.Goals as goal

pub returns : goal.returns
returns g c =
    let args = (g.F.FormSource.form c.args.form.now).args in
    first_place c.args.position c.arg_count.result args c.find.result c.arg_count.ensures
    (first_from_Range _ _ _ c.find.result (λ j. is_number c.args.position (get_or args j blank_arg).index ≡ true) (λ j. is_number c.args.position (get_or args j blank_arg).index ≡ false) c.find.ensures.ran
    (λ x q k. search (rules, tests)) (λ x q k. search (rules, tests)))
