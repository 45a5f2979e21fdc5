-- The lines so far are those of the first cubes.
use Rattle.std.proofs.Common.{◌≡◌, take}
use Rattle.mv_base.specs.Set.{one}
use Rattle.mv_cover.specs.Complement.{lines_for}
use Rattle.mv_extract.proofs.adding.divisor_table.Given as goal

abbrev pub invariant-loop-cube : goal.invariant-loop-cube
invariant-loop-cube l = l.lines ≡ lines_for (one 1) (take l.cube-index l.divisor)
