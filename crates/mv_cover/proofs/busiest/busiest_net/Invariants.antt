use Rattle.std.proofs.Common.{◌≡◌, true}
use Rattle.mv_cover.specs.Cofactors.{cubes_read}
use Rattle.mv_cover.proofs.busiest.busiest_net.Given as goal

abbrev pub invariant-loop-cube : goal.invariant-loop-cube
invariant-loop-cube l = cubes_read l.cubes l.best.net.0 ≡ true
