use Rattle.std.proofs.Common.{◌≡◌, ℕ, length, count_by}
use Rattle.mv_factors.specs.Families.{Keeps, before}
use Rattle.mv_factors.specs.Seen.{AreSeen, HasRoom, HasRows, IsUnderWay}
use Rattle.mv_factors.proofs.elimination.eliminate_left.Given as goal

abbrev pub invariant-loop-one : goal.invariant-loop-one
invariant-loop-one l = record {
  under : IsUnderWay l.fn.factors l.factors l.from l.inner l.work.left.items;
  keeps : Keeps l.fn.factors l.factors (before l.from);
  long : length l.factors.list ≡ length l.fn.factors.list;
  left : length l.work.left.items ≡ length l.fn.factors.contents.counts;
  seen : AreSeen l.factors l.from l.work.rows.items;
  room : (places vars : ℕ) → HasRoom l.fn.work places vars → HasRoom l.work places vars;
  rows : (places vars : ℕ) → HasRows l.fn.work.rows.items places vars → HasRows l.work.rows.items places vars;
}

abbrev pub decreases-loop-one : goal.decreases-loop-one
decreases-loop-one l = count_by (λ b. b) l.work.left.items
