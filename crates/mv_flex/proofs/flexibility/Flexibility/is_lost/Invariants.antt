use Rattle.std.proofs.Common.{◌≡◌, ◌<◌, ℕ, false}
use Rattle.mv_flex.specs.Checks.{loses}
use Rattle.mv_flex.proofs.flexibility.Flexibility.is_lost.Given as goal

abbrev pub invariant-loop-point : goal.invariant-loop-point
invariant-loop-point l = (k : ℕ) → k < l.point → loses l.self l.new k ≡ false
