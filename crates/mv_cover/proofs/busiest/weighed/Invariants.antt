use Rattle.std.proofs.Common.{◌≡◌, false}
use Rattle.mv_cover.specs.Covers.{cube_reads}
use Rattle.mv_cover.proofs.busiest.weighed.Given as goal

abbrev pub invariant-loop-l : goal.invariant-loop-l
invariant-loop-l l = cube_reads l.cube l.best.net.0 ≡ false → l.best.net ≡ l.fn.before.net
