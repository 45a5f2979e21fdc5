use Rattle.std.proofs.Common.{◌≡◌, take}
use Rattle.std.specs.List.{flat_map}
use Rattle.mv_unfold.specs.Locals.{stop_of}
use Rattle.mv_unfold.proofs.spans.stops.Given as goal

abbrev pub invariant-loop-bind : goal.invariant-loop-bind
invariant-loop-bind l = l.stops.items ≡ flat_map (stop_of l.nets) (take l.bind-index l.binds)
