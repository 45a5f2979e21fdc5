use Rattle.std.proofs.Common.{◌≡◌, ◌+◌, length}
use Rattle.mv_factors.specs.Families.{Keeps, before}
use Rattle.mv_wide.specs.Families.{AreCopies}
use Rattle.mv_wide.proofs.families.add_copies.Given as goal

abbrev pub invariant-loop-offset : goal.invariant-loop-offset
invariant-loop-offset l = record {
  keeps : Keeps l.fn.factors l.factors (before (length l.fn.factors.list));
  long : length l.factors.list ≡ length l.fn.factors.list + l.offset;
  sets : AreCopies l.fn.factors l.factors l.from l.offset l.left_out (length l.fn.factors.list);
}
