-- The nets so far were visited, and it is right from which nets on some table isn't total.
use Rattle.mv_partial.specs.Partial.{ArePartial}
use Rattle.mv_pass.specs.Courses.{Visits}
use Rattle.mv_pass.proofs.Coming.{Came}
use Rattle.mv_simplify.specs.Simplifying.{Visit}
use Rattle.mv_simplify.proofs.simplifying.visit_each.Given as goal

abbrev pub invariant-loop-number : goal.invariant-loop-number
invariant-loop-number g l = record {
  came : Came l.asked.terms.free (Visits (Visit l.asked) l.number) l.fn.net l.net (g.J.Journal.state l.fn.journal) (g.J.Journal.state l.journal);
  right : ArePartial l.net.nets l.partial;
}
