use Rattle.std.proofs.Common.{◌≡◌}
use Rattle.mv_decl.specs.Line.{numbers_below}
use Rattle.mv_decl.proofs.count.numbers_below.Given as goal

abbrev pub invariant-loop-value : goal.invariant-loop-value
invariant-loop-value l = l.names ≡ numbers_below l.value
