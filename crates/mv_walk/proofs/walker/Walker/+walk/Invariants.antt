use Rattle.std.proofs.Common.{◌+◌, ◌*◌, ◌-◌}
use Rattle.mv_walk.specs.Commands.{model_at}
use Rattle.mv_walk.specs.Steps.{level_of, trail_of}
use Rattle.mv_walk.proofs.Steps.{IsBefore}
use Rattle.mv_walk.proofs.walker.Walker.+walk.Given as goal

abbrev pub decreases-inside : goal.decreases-inside
decreases-inside l = 2 * l.levels + 1

abbrev pub decreases-open : goal.decreases-open
decreases-open l = 2 * l.levels

abbrev pub invariant-inside-loop-at : goal.invariant-inside-loop-at
invariant-inside-loop-at l = IsBefore l.known (l.levels - 1) (level_of l.known (model_at l.known.models l.model) (trail_of l.fn.self)) l.number l.at l.fn.self l.self
