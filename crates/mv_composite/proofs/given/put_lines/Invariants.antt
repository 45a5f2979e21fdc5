use Rattle.std.proofs.Common.{take}
use Rattle.std.specs.List.{flat_map}
use Rattle.mv_composite.proofs.given.put_lines.Given as goal

abbrev pub invariant-loop-line : goal.invariant-loop-line
invariant-loop-line g l = g.T.Taker.takes l.fn.taker l.taker (flat_map (g.G.Giver.gives l.giver) (take l.line-index l.lines))
