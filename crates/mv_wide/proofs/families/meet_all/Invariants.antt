use Rattle.std.proofs.Common.{◌≡◌, true, length}
use Rattle.mv_diagram.specs.Sets.{Point}
use Rattle.mv_factors.specs.Families.{Keeps, but, set_at}
use Rattle.mv_wide.specs.Families.{IsInEach}
use Rattle.mv_wide.proofs.families.meet_all.Given as goal

abbrev pub invariant-loop-other : goal.invariant-loop-other
invariant-loop-other l = record {
  keeps : Keeps l.fn.factors l.factors (but l.place);
  long : length l.factors.list ≡ length l.fn.factors.list;
  only : (p : Point) → set_at l.factors l.place p ≡ true → IsInEach l.fn.factors l.place l.other p;
  all : (p : Point) → IsInEach l.fn.factors l.place l.other p → set_at l.factors l.place p ≡ true;
}
