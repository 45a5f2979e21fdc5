-- The values of the words so far.
use Rattle.std.proofs.Common.{◌≡◌, Some, map}
use Rattle.mv_step.specs.Sets.{values_said}
use Rattle.mv_step.proofs.set.values_said.Given as goal

abbrev pub invariant-loop-word : goal.invariant-loop-word
invariant-loop-word l = values_said (map (λ w. w.now) l.yielded) ≡ Some l.set
