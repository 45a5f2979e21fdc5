-- The lemmas say it.
use Rattle.mv_script_run.proofs.Rules.{runs_replays, stops_replays}
use Rattle.mv_script_run.proofs.laws.entries_replay.Goals as goal

pub returns-clause-runs : goal.returns-clause-runs
returns-clause-runs c = runs_replays

pub returns-clause-stops : goal.returns-clause-stops
returns-clause-stops c = stops_replays
