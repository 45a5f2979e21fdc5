use Rattle.std.proofs.Common.{◌≡◌, ◌++◌, drop}
use Rattle.mv_cover.specs.Cofactors.{cubes_of}
use Rattle.mv_cover.proofs.covers.copied_cubes.Given as goal

abbrev pub invariant-loop-line : goal.invariant-loop-line
invariant-loop-line l = l.cubes ++ cubes_of (drop l.line-index l.lines) ≡ cubes_of l.lines
