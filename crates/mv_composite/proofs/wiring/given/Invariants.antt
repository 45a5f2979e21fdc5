use Rattle.std.proofs.Common.{take}
use Rattle.std.specs.List.{flat_map}
use Rattle.mv_cover.specs.Absorb.{IsLeftOf}
use Rattle.mv_composite.specs.Inside.{AreCubes}
use Rattle.mv_composite.specs.Wired.{line_wired}
use Rattle.mv_composite.proofs.wiring.given.Given as goal

abbrev pub invariant-loop-line : goal.invariant-loop-line
invariant-loop-line l = record {
  left : IsLeftOf (flat_map (line_wired l.net.0 l.into.0) (take l.line-index l.lines)) l.left;
  formed : AreCubes (take l.line-index l.lines);
}
