use Rattle.std.proofs.Common.{take}
use Rattle.mv_dag.specs.Readers.{HasAll, IsGrown, is_given_by}
use Rattle.mv_dag.proofs.readers.put_row.Given as goal

abbrev pub invariant-loop-fanin : goal.invariant-loop-fanin
invariant-loop-fanin l =
    IsGrown l.initial.readers l.readers (is_given_by l.net.0 (take l.fanin-index l.fanins)) × HasAll l.readers (is_given_by l.net.0 (take l.fanin-index l.fanins))
