use Rattle.std.proofs.Common.{◌≡◌, take}
use Rattle.mv_wide.specs.Inners.{counts_of}
use Rattle.mv_wide.proofs.nets.counts_of.Given as goal

abbrev pub invariant-loop-held : goal.invariant-loop-held
invariant-loop-held l = l.counts.items ≡ counts_of l.net.nets (take l.held-index l.nets)
