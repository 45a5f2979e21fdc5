use Rattle.std.proofs.Common.{◌≡◌, take}
use Rattle.mv_cover.specs.Cofactors.{cube_without}
use Rattle.mv_composite.proofs.literal.others.Given as goal

abbrev pub invariant-loop-l : goal.invariant-loop-l
invariant-loop-l l = l.others.items ≡ cube_without l.net.0 (take l.l-index l.l-items)
