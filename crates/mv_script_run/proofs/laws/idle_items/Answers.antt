-- The lemmas say it.
use Rattle.mv_script_run.proofs.Idle.{idle, only_idle}
use Rattle.mv_script_run.proofs.laws.idle_items.Goals as goal

pub returns-clause-does : goal.returns-clause-does
returns-clause-does c = idle

pub returns-clause-nothing : goal.returns-clause-nothing
returns-clause-nothing c = only_idle
