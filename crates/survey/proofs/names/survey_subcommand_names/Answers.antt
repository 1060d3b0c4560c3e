use Rattle.std.proofs.Common.{arith}
use Rattle.form.specs.Model.{blank_subcommand}
use Rattle.sinks.proofs.Walks.{walk_step, walk_end, walk_stop}
use Rattle.survey.proofs.names.survey_subcommand_names.Goals as goal

pub loop-later-preserved : goal.loop-later-preserved
loop-later-preserved g c =
    walk_step blank_subcommand (omega arith) c.loop-later.invariant c.offer_names.ensures.took

pub returns-in_err-offer_names-clause-took : goal.returns-in_err-offer_names-clause-took
returns-in_err-offer_names-clause-took g c =
    walk_stop blank_subcommand (omega arith) c.loop-later.invariant c.offer_names.ensures.took c.in_err-offer_names.ensures.goes

pub returns-clause-took : goal.returns-clause-took
returns-clause-took g c = walk_end (omega arith) c.loop-later.invariant
