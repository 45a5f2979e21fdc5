-- The nets so far were visited, and the marks are right.
use Rattle.mv_pass.proofs.Coming.{Came}
use Rattle.mv_fill.specs.Filling.{HasFilled, HasMarks}
use Rattle.mv_fill.proofs.filling.visit_each.Given as goal

abbrev pub invariant-loop-number : goal.invariant-loop-number
invariant-loop-number g l = record {
  came : Came l.terms.free (HasFilled l.terms.free l.number) l.fn.net l.net (g.J.Journal.state l.fn.journal) (g.J.Journal.state l.journal);
  marks : HasMarks l.net.nets l.marks;
}
