-- The lemmas say it.
use Rattle.mv_script_run.proofs.NoMore.{does_no_more, runs_no_more}
use Rattle.mv_script_run.proofs.laws.no_more_literals.Goals as goal

pub returns-clause-commands : goal.returns-clause-commands
returns-clause-commands c = does_no_more

pub returns-clause-scripts : goal.returns-clause-scripts
returns-clause-scripts c = runs_no_more
