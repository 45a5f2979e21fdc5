use Rattle.std.proofs.Common.{take}
use Rattle.mv_graph.specs.Sorting.{HasLooked}
use Rattle.mv_graph.proofs.sorting.Sorting.look_at.Given as goal

abbrev pub invariant-loop-net : goal.invariant-loop-net
invariant-loop-net l = HasLooked l.columns l.initial.self l.self (take l.net-index l.nets)
