-- The nets so far were visited.
use Rattle.mv_pass.specs.Courses.{Visits}
use Rattle.mv_pass.proofs.Coming.{Came}
use Rattle.mv_extract.specs.Extracts.{NotesKernels}
use Rattle.mv_extract.proofs.noting.note_kernels.Given as goal

abbrev pub invariant-loop-number : goal.invariant-loop-number
invariant-loop-number g l = Came l.terms.free (Visits NotesKernels l.number) l.net l.net (g.J.Journal.state l.fn.journal) (g.J.Journal.state l.journal)
