-- The nets so far were visited, and it is known from which on some table isn't total.
use Rattle.mv_partial.specs.Partial.{ArePartial}
use Rattle.mv_pass.specs.Courses.{Visits}
use Rattle.mv_pass.proofs.Coming.{Came}
use Rattle.mv_choose.specs.Choices.{Determinizing}
use Rattle.mv_visit.specs.Visits.{Treats}
use Rattle.mv_choose.proofs.choices.visit_each.Given as goal

abbrev pub invariant-loop-number : goal.invariant-loop-number
invariant-loop-number g l = record {
  came : Came l.terms.free (Visits (Treats Determinizing) l.number) l.fn.net l.net (g.J.Journal.state l.fn.journal) (g.J.Journal.state l.journal);
  right : ArePartial l.net.nets l.partial;
}
