-- The steps so far, and behind them those of the lines that are left, which have the faults of all.
use Rattle.std.proofs.Common.{◌≡◌, ◌++◌, drop, map}
use Rattle.std.specs.List.{flat_map, enumerate_from}
use Rattle.mv_trace.specs.Runs.{step_said, step_faults}
use Rattle.mv_trace.proofs.reader.read_steps.Given as goal

abbrev pub invariant-loop-before : goal.invariant-loop-before
invariant-loop-before l = record {
  said : l.steps.items ++ map (step_said l.net) (drop l.before l.lines) ≡ map (step_said l.net) l.lines;
  faults : flat_map (step_faults l.net) (enumerate_from l.before (drop l.before l.lines)) ≡ flat_map (step_faults l.net) (enumerate_from 0 l.lines);
}
