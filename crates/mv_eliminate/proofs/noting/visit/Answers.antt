-- A net that isn't too wide is let be.
use Rattle.std.proofs.Common.{refl}
use Rattle.mv_pass.specs.Courses.{Perhaps, Still}
use Rattle.mv_pass.proofs.Stepped.{idle, stuck}
use Rattle.mv_eliminate.specs.Eliminates.{NotesWide, Skips}
use Rattle.mv_eliminate.proofs.noting.visit.Goals as goal

pub returns-in-Ok-false-clause-passes : goal.returns-in-Ok-false-clause-passes
returns-in-Ok-false-clause-passes g c =
    let narrow = rw c.in-Ok-false.field-0-test at c.in-Ok-false.ensures.wide in
    idle c.args.terms.free (NotesWide c.args.n.0) (Perhaps (NotesWide c.args.n.0)) c.args.net.now _ (Skips narrow (refl, refl))

pub returns-in-Err-clause-passes : goal.returns-in-Err-clause-passes
returns-in-Err-clause-passes g c =
    stuck c.args.terms.free (NotesWide c.args.n.0) (Perhaps (NotesWide c.args.n.0)) c.args.net.now _ (Still (refl, refl))

pub note_one-requires : goal.note_one-requires
note_one-requires g c = rw c.in-Ok-true.field-0-test at c.in-Ok-true.ensures.wide
