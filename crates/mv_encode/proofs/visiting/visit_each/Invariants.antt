-- The nets so far were visited.
use Rattle.mv_pass.specs.Courses.{Visits}
use Rattle.mv_pass.proofs.Coming.{Came}
use Rattle.mv_encode.specs.Encodes.{EncodesNet}
use Rattle.mv_encode.proofs.visiting.visit_each.Given as goal

abbrev pub invariant-loop-number : goal.invariant-loop-number
invariant-loop-number g l = Came l.terms.free (Visits EncodesNet l.number) l.fn.net l.net (g.J.Journal.state l.fn.journal) (g.J.Journal.state l.journal)
