use Rattle.std.proofs.Common.{◌≤◌}
use Rattle.mv_witness.specs.Commons.{Copies}
use Rattle.mv_witness.proofs.copies.copy_sets.Given as goal

abbrev pub invariant-loop-place : goal.invariant-loop-place
invariant-loop-place l = Copies l.fn.factors l.factors l.from l.place
