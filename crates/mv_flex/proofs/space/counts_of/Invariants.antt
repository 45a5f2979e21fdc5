use Rattle.std.proofs.Common.{◌≡◌, take}
use Rattle.mv_flex.specs.Plans.{counts_of}
use Rattle.mv_flex.proofs.space.counts_of.Given as goal

abbrev pub invariant-loop-held : goal.invariant-loop-held
invariant-loop-held l = l.counts ≡ counts_of l.net.nets (take l.held-index l.nets)
