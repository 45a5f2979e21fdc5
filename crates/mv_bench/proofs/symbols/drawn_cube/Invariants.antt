use Rattle.mv_cover.proofs.Building.{Built}
use Rattle.mv_bench.proofs.symbols.drawn_cube.Given as goal

abbrev pub invariant-loop-net : goal.invariant-loop-net
invariant-loop-net l = Built l.lits l.net
