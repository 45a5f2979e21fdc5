-- The nets so far were visited, and what is kept is right.
use Rattle.mv_gain.specs.Kept.{AreRight}
use Rattle.mv_pass.specs.Courses.{Visits}
use Rattle.mv_pass.proofs.Coming.{Came}
use Rattle.mv_eliminate.specs.Eliminates.{NotesWide}
use Rattle.mv_eliminate.proofs.noting.note_wide.Given as goal

abbrev pub invariant-loop-number : goal.invariant-loop-number
invariant-loop-number g l = record {
  came : Came l.terms.free (Visits NotesWide l.number) l.net l.net (g.J.Journal.state l.fn.journal) (g.J.Journal.state l.journal);
  right : AreRight l.net.nets l.kept;
}
