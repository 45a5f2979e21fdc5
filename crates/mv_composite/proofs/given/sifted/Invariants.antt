use Rattle.std.specs.List.{flat_map}
use Rattle.mv_composite.specs.Takers.{IsSifted}
use Rattle.mv_composite.proofs.given.sifted.Given as goal

abbrev pub invariant-loop-pass : goal.invariant-loop-pass
invariant-loop-pass g l = IsSifted (flat_map (g.G.Giver.gives l.giver) l.lines) l.lightest.left l.lightest.cap
