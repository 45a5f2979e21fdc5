use Rattle.std.proofs.Common.{◌≡◌, ◌+◌, ◌<◌, ℕ, [], length}
use Rattle.std.specs.Prelude.{slice_index}
use Rattle.mv_diagram.specs.Sets.{Point, InRange}
use Rattle.mv_factors.specs.Families.{Keeps, before}
use Rattle.mv_factors.specs.Leaving.{IsInAll}
use Rattle.mv_witness.specs.Commons.{HasCommon}
use Rattle.mv_witness.proofs.values.give_values.Given as goal

abbrev pub invariant-loop-place : goal.invariant-loop-place
invariant-loop-place l = record {
  keeps : Keeps l.fn.factors l.factors (before (length l.fn.factors.list));
  long : length l.factors.list ≡ length l.fn.factors.list + l.place;
  same : l.commons ≡ l.fn.commons;
  some : HasCommon l.factors l.from [];
  all : (p : Point) → InRange l.fn.factors.contents.counts p → IsInAll l.factors l.from p → IsInAll l.fn.factors l.from p;
  values : (p : Point) → InRange l.fn.factors.contents.counts p → IsInAll l.factors l.from p → (k : ℕ) → k < l.place
      → p k ≡ slice_index l.values k;
}
