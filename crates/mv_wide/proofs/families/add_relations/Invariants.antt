use Rattle.std.proofs.Common.{◌≡◌, ◌+◌, length}
use Rattle.mv_factors.specs.Families.{Keeps, before}
use Rattle.mv_wide.specs.Families.{AreRelations}
use Rattle.mv_wide.proofs.families.add_relations.Given as goal

abbrev pub invariant-loop-table : goal.invariant-loop-table
invariant-loop-table l = record {
  keeps : Keeps l.fn.factors l.factors (before (length l.fn.factors.list));
  long : length l.factors.list ≡ length l.fn.factors.list + l.table-index;
  sets : AreRelations l.net.nets l.vars l.tables l.table-index l.factors (length l.fn.factors.list);
}
