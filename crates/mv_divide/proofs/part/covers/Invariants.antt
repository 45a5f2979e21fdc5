use Rattle.std.proofs.Common.{◌≡◌, map}
use Rattle.mv_divide.specs.Grouped.{as_part}
use Rattle.mv_divide.proofs.part.covers.Given as goal

abbrev pub invariant-loop-group : goal.invariant-loop-group
invariant-loop-group l = l.parts.items ≡ map as_part l.yielded
