use Rattle.std.proofs.Common.{◌≡◌, [], ◌++◌, replicate}
use Rattle.mv_acyclic.proofs.columns.add_open.Given as goal

abbrev pub invariant-loop-net : goal.invariant-loop-net
invariant-loop-net l = l.columns ≡ l.fn.columns ++ replicate l._net []
