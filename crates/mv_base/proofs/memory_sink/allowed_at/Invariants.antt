use Rattle.std.proofs.Common.{◌≡◌, drop}
use Rattle.mv_base.specs.Memory.{allowed_at}
use Rattle.mv_base.proofs.memory_sink.allowed_at.Given as goal

abbrev pub invariant-loop-at : goal.invariant-loop-at
invariant-loop-at l = allowed_at (drop l.at-index l.fails) l.call ≡ allowed_at l.fails l.call
