use Rattle.std.proofs.Common.{rules}
use Rattle.survey.proofs.PartsTold.{parts_told}
use Rattle.sinks.proofs.Walks.{then_more, then_stop}
use Rattle.survey.proofs.sections.survey.Goals as goal

pub returns-in_err-survey_propagation-clause-took : goal.returns-in_err-survey_propagation-clause-took
returns-in_err-survey_propagation-clause-took g c = rw (parts_told (g.F.FormSource.form c.args.form.now)) (search (rules, then_more g.S.Sink, then_stop g.S.Sink) depth 40 fits 4000)

pub returns-in_err-survey_versions-clause-took : goal.returns-in_err-survey_versions-clause-took
returns-in_err-survey_versions-clause-took g c = rw (parts_told (g.F.FormSource.form c.args.form.now)) (search (rules, then_more g.S.Sink, then_stop g.S.Sink) depth 40 fits 4000)

pub returns-in_err-survey_dashed_flags-clause-took : goal.returns-in_err-survey_dashed_flags-clause-took
returns-in_err-survey_dashed_flags-clause-took g c = rw (parts_told (g.F.FormSource.form c.args.form.now)) (search (rules, then_more g.S.Sink, then_stop g.S.Sink) depth 40 fits 4000)

pub returns-in_err-survey_arguments-clause-took : goal.returns-in_err-survey_arguments-clause-took
returns-in_err-survey_arguments-clause-took g c = rw (parts_told (g.F.FormSource.form c.args.form.now)) (search (rules, then_more g.S.Sink, then_stop g.S.Sink) depth 40 fits 4000)

pub returns-in_err-survey_groups-clause-took : goal.returns-in_err-survey_groups-clause-took
returns-in_err-survey_groups-clause-took g c = rw (parts_told (g.F.FormSource.form c.args.form.now)) (search (rules, then_more g.S.Sink, then_stop g.S.Sink) depth 40 fits 4000)

pub returns-in_err-survey_long_flags-clause-took : goal.returns-in_err-survey_long_flags-clause-took
returns-in_err-survey_long_flags-clause-took g c = rw (parts_told (g.F.FormSource.form c.args.form.now)) (search (rules, then_more g.S.Sink, then_stop g.S.Sink) depth 40 fits 4000)

pub returns-in_err-survey_letter_flags-clause-took : goal.returns-in_err-survey_letter_flags-clause-took
returns-in_err-survey_letter_flags-clause-took g c = rw (parts_told (g.F.FormSource.form c.args.form.now)) (search (rules, then_more g.S.Sink, then_stop g.S.Sink) depth 40 fits 4000)

pub returns-in_err-survey_subcommand_names-clause-took : goal.returns-in_err-survey_subcommand_names-clause-took
returns-in_err-survey_subcommand_names-clause-took g c = rw (parts_told (g.F.FormSource.form c.args.form.now)) (search (rules, then_more g.S.Sink, then_stop g.S.Sink) depth 40 fits 4000)

pub returns-in_err-survey_gaps-clause-took : goal.returns-in_err-survey_gaps-clause-took
returns-in_err-survey_gaps-clause-took g c = rw (parts_told (g.F.FormSource.form c.args.form.now)) (search (rules, then_more g.S.Sink, then_stop g.S.Sink) depth 40 fits 4000)

pub returns-in_err-survey_trailing-clause-took : goal.returns-in_err-survey_trailing-clause-took
returns-in_err-survey_trailing-clause-took g c = rw (parts_told (g.F.FormSource.form c.args.form.now)) (search (rules, then_more g.S.Sink, then_stop g.S.Sink) depth 40 fits 4000)

pub returns-in_err-survey_ends-clause-took : goal.returns-in_err-survey_ends-clause-took
returns-in_err-survey_ends-clause-took g c = rw (parts_told (g.F.FormSource.form c.args.form.now)) (search (rules, then_more g.S.Sink, then_stop g.S.Sink) depth 40 fits 4000)

pub returns-in_err-survey_positions-clause-took : goal.returns-in_err-survey_positions-clause-took
returns-in_err-survey_positions-clause-took g c = rw (parts_told (g.F.FormSource.form c.args.form.now)) (search (rules, then_more g.S.Sink, then_stop g.S.Sink) depth 40 fits 4000)

pub returns-in_err-survey_two_last-clause-took : goal.returns-in_err-survey_two_last-clause-took
returns-in_err-survey_two_last-clause-took g c = rw (parts_told (g.F.FormSource.form c.args.form.now)) (search (rules, then_more g.S.Sink, then_stop g.S.Sink) depth 40 fits 4000)

pub returns-in_err-survey_required_last-clause-took : goal.returns-in_err-survey_required_last-clause-took
returns-in_err-survey_required_last-clause-took g c = rw (parts_told (g.F.FormSource.form c.args.form.now)) (search (rules, then_more g.S.Sink, then_stop g.S.Sink) depth 40 fits 4000)

pub returns-in_err-survey_multicall-clause-took : goal.returns-in_err-survey_multicall-clause-took
returns-in_err-survey_multicall-clause-took g c = rw (parts_told (g.F.FormSource.form c.args.form.now)) (search (rules, then_more g.S.Sink, then_stop g.S.Sink) depth 40 fits 4000)

pub returns-clause-took : goal.returns-clause-took
returns-clause-took g c = rw (parts_told (g.F.FormSource.form c.args.form.now)) (search (rules, then_more g.S.Sink, then_stop g.S.Sink) depth 40 fits 4000)
