use Rattle.std.proofs.Common.{◌≡◌, take}
use Rattle.mv_meets.specs.Meets.{common}
use Rattle.mv_meets.proofs.common.common.Given as goal

abbrev pub invariant-loop-literal : goal.invariant-loop-literal
invariant-loop-literal l = l.shared.items ≡ common (take l.literal-index l.literal-items) l.b
