-- The nets so far were visited, and the network means what it meant.
use Rattle.mv_base.specs.Meaning.{SameMeaning}
use Rattle.mv_net.specs.Allowed.{of_net}
use Rattle.mv_pass.specs.Courses.{Visits}
use Rattle.mv_pass.proofs.Coming.{Came}
use Rattle.mv_extract.specs.Steps.{DividesNet}
use Rattle.mv_extract.proofs.dividing.divide_each.Given as goal

abbrev pub invariant-loop-number : goal.invariant-loop-number
invariant-loop-number g l = record {
  came : Came l.terms.free (Visits (DividesNet l.terms.free l.divisor l.d) l.number) l.fn.net l.net (g.J.Journal.state l.fn.journal) (g.J.Journal.state l.journal);
  means : SameMeaning (of_net l.net) (of_net l.fn.net);
}
