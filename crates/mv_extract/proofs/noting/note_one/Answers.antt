-- The note has the name of the net.
use Rattle.std.proofs.Common.{◌∙◌, refl}
use Rattle.mv_pass.specs.Courses.{Perhaps, Still, Through}
use Rattle.mv_pass.proofs.Stepped.{stuck, told, cut}
use Rattle.mv_extract.specs.Extracts.{NotesKernels}
use Rattle.mv_extract.proofs.Notes.{note_visible, tells, many_held}
use Rattle.mv_extract.proofs.noting.note_one.Goals as goal

pub name-requires : goal.name-requires
name-requires g c = many_held c.args.net.now c.args.n.0 c.requires

pub note-requires : goal.note-requires
note-requires g c = note_visible c.args.net.now c.args.n.0 _ c.well_formed-2.ensures c.requires (c.in-Ok.ensures ∙ c.name.ensures)

pub returns-in-Err : goal.returns-in-Err
returns-in-Err g c = stuck c.args.terms.free (NotesKernels c.args.n.0) (Perhaps (NotesKernels c.args.n.0)) c.args.net.now _ (Still (refl, refl))

pub returns-in-Ok-note : goal.returns-in-Ok-note
returns-in-Ok-note g c =
    told c.args.terms.free (NotesKernels c.args.n.0) (Perhaps (NotesKernels c.args.n.0)) c.args.net.now _ _ _
    (tells c.args.net.now c.args.n.0 _ c.requires (c.in-Ok.ensures ∙ c.name.ensures)) c.in-Ok-note.ensures

pub returns : goal.returns
returns g c =
    cut c.args.terms.free (NotesKernels c.args.n.0) (Perhaps (NotesKernels c.args.n.0)) c.args.net.now _ _ _ _
    (Through (tells c.args.net.now c.args.n.0 _ c.requires (c.in-Ok.ensures ∙ c.name.ensures))) c.in-Err-note.ensures
