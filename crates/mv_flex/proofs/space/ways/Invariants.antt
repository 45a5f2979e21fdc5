use Rattle.std.proofs.Common.{◌≡◌, ◌*◌, drop}
use Rattle.mv_flex.specs.Spaces.{ways}
use Rattle.mv_flex.proofs.space.ways.Given as goal

abbrev pub invariant-loop-count : goal.invariant-loop-count
invariant-loop-count l = l.product * ways (drop l.count-index l.counts) ≡ ways l.counts
