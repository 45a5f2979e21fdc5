use Rattle.std.proofs.Common.{◌≡◌, ◌+◌, ◌||◌, drop, length}
use Rattle.mv_diagram.specs.Sets.{Point, InRange}
use Rattle.mv_factors.specs.Families.{Keeps, before, set_at}
use Rattle.mv_relation.specs.Placing.{some_choose}
use Rattle.mv_relation.proofs.lines.choose_lines.Given as goal

abbrev pub invariant-loop-line : goal.invariant-loop-line
invariant-loop-line l = record {
  keeps : Keeps l.fn.factors l.factors (before l.place);
  long : length l.factors.list ≡ l.place + 1;
  set : (p : Point) → InRange l.fn.factors.contents.counts p
      → (set_at l.factors l.place p || some_choose l.vars p (drop l.line-index l.lines))
      ≡ (set_at l.fn.factors l.place p || some_choose l.vars p l.lines);
}
