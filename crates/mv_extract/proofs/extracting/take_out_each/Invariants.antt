-- Such steps led here, and each leaves fewer literals.
use Rattle.mv_base.specs.Meaning.{SameMeaning}
use Rattle.mv_net.specs.Allowed.{of_net}
use Rattle.mv_net.specs.Nets.{literals_in}
use Rattle.mv_pass.specs.Courses.{Repeated}
use Rattle.mv_pass.proofs.Coming.{Came}
use Rattle.mv_extract.specs.Dividing.{candidates_of}
use Rattle.mv_extract.specs.Keeping.{IsSearch}
use Rattle.mv_extract.specs.Steps.{TakesBest}
use Rattle.mv_extract.proofs.extracting.take_out_each.Given as goal

abbrev pub invariant-extracting : goal.invariant-extracting
invariant-extracting g l = record {
  came : Came l.terms.free (Repeated (TakesBest (candidates_of l.divisors) l.terms.free)) l.fn.net l.net (g.J.Journal.state l.fn.journal) (g.J.Journal.state l.journal);
  search : IsSearch l.divisors l.net.nets l.search;
  means : SameMeaning (of_net l.net) (of_net l.fn.net);
}

abbrev pub decreases-extracting : goal.decreases-extracting
decreases-extracting g l = literals_in l.net.nets
