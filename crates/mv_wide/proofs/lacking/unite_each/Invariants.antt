use Rattle.std.proofs.Common.{◌≡◌, length}
use Rattle.mv_factors.specs.Families.{Keeps}
use Rattle.mv_factors.specs.Leaving.{is_inner}
use Rattle.mv_wide.specs.Families.{AddsMissedIn, between}
use Rattle.mv_wide.proofs.lacking.unite_each.Given as goal

abbrev pub invariant-loop-place : goal.invariant-loop-place
invariant-loop-place l = record {
  same : l.elimination ≡ l.fn.elimination;
  keeps : Keeps l.fn.factors l.factors (between (length l.fn.factors.list));
  long : length l.factors.list ≡ length l.fn.factors.list;
  sets : AddsMissedIn l.fn.factors l.factors l.tables l.left_out l.from l.place (is_inner l.beside);
}
