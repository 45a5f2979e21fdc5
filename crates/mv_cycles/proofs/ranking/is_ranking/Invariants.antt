use Rattle.std.proofs.Common.{ℕ, ◌<◌}
use Rattle.mv_graph.specs.Nets.{row}
use Rattle.mv_cycles.specs.Ranks.{AreNoHigher}
use Rattle.mv_cycles.proofs.ranking.is_ranking.Given as goal

abbrev pub invariant-loop-number : goal.invariant-loop-number
invariant-loop-number l = (n : ℕ) → n < l.number → AreNoHigher l.ranks (row l.columns n) n
