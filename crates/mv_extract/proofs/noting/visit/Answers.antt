-- A net without too many kernels is let be.
use Rattle.std.proofs.Common.{refl}
use Rattle.mv_pass.specs.Courses.{Perhaps, Still}
use Rattle.mv_pass.proofs.Stepped.{idle, stuck}
use Rattle.mv_extract.specs.Extracts.{NotesKernels, Skips}
use Rattle.mv_extract.proofs.noting.visit.Goals as goal

pub returns-in-Ok-false : goal.returns-in-Ok-false
returns-in-Ok-false g c =
    let few = rw c.in-Ok-false.field-0-test at c.in-Ok-false.ensures in
    idle c.args.terms.free (NotesKernels c.args.n.0) (Perhaps (NotesKernels c.args.n.0)) c.args.net.now _ (Skips few (refl, refl))

pub returns-in-Err : goal.returns-in-Err
returns-in-Err g c =
    stuck c.args.terms.free (NotesKernels c.args.n.0) (Perhaps (NotesKernels c.args.n.0)) c.args.net.now _ (Still (refl, refl))

pub note_one-requires : goal.note_one-requires
note_one-requires g c = rw c.in-Ok-true.field-0-test at c.in-Ok-true.ensures
