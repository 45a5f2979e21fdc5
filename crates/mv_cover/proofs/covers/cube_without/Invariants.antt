use Rattle.std.proofs.Common.{◌≡◌, take}
use Rattle.mv_cover.specs.Cofactors.{cube_without}
use Rattle.mv_cover.proofs.covers.cube_without.Given as goal

abbrev pub invariant-loop-l : goal.invariant-loop-l
invariant-loop-l l = l.rest ≡ cube_without l.net.0 (take l.l-index l.cube)
