use Rattle.std.proofs.Common.{◌≡◌, take}
use Rattle.mv_gains.specs.Candidates as candidates
use Rattle.mv_gains.proofs.cubes.common.Given as goal

abbrev pub invariant-loop-literal : goal.invariant-loop-literal
invariant-loop-literal l = l.shared.items ≡ candidates.common (take l.literal-index l.literal-items) l.b
