use Rattle.std.proofs.Common.{◌≡◌, ◌≤◌, ◌+◌, map, drop}
use Rattle.mv_base.specs.declared.limits.TheConstants.{MAX_INSTANCES}
use Rattle.mv_walk.specs.Walk.{visit, visits_faults}
use Rattle.mv_walk.specs.Commands.{model_at}
use Rattle.mv_walk.specs.Steps.{level_of, trail_of}
use Rattle.mv_walk.proofs.walker.Walker.look.Given as goal

abbrev pub invariant-loop-command : goal.invariant-loop-command
invariant-loop-command l =
    let level = level_of l.known (model_at l.known.models l.model) (trail_of l.self) in
    record {
      count : l.count ≡ l.self.count + l.command-index;
      few : l.count ≤ MAX_INSTANCES;
      faults : visits_faults l.known l.count (map (visit level) (drop l.command-index level.model.instances)) ≡ visits_faults l.known l.self.count (map (visit level) level.model.instances);
    }
