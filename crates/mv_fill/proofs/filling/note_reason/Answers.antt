-- The note has the name of the net.
use Rattle.std.proofs.Common.{◌∙◌, refl}
use Rattle.mv_pass.specs.Courses.{Perhaps, Still, Through}
use Rattle.mv_pass.proofs.Stepped.{stuck, told, cut}
use Rattle.mv_fill.specs.Fills.{FillsNet}
use Rattle.mv_fill.proofs.Unfilled.{unfilled_held, note_visible, stays_so}
use Rattle.mv_fill.proofs.filling.note_reason.Goals as goal

pub name-requires : goal.name-requires
name-requires g c = unfilled_held c.args.net.now.nets c.args.n.0 c.requires.unfilled

pub note-requires : goal.note-requires
note-requires g c = note_visible c.args.net.now c.args.n.0 c.args.why _ c.well_formed-2.ensures c.requires.unfilled (c.in-Ok.ensures ∙ c.name.ensures)

pub returns-in-Err : goal.returns-in-Err
returns-in-Err g c = stuck c.args.terms.free (FillsNet c.args.terms.free c.args.n.0) (Perhaps (FillsNet c.args.terms.free c.args.n.0)) c.args.net.now _ (Still (refl, refl))

pub returns-in-Ok-note : goal.returns-in-Ok-note
returns-in-Ok-note g c =
    told c.args.terms.free (FillsNet c.args.terms.free c.args.n.0) (Perhaps (FillsNet c.args.terms.free c.args.n.0)) c.args.net.now _ _ _
    (stays_so c.args.terms.free c.args.net.now c.args.n.0 c.args.why _ c.requires.unfilled c.requires.stays (c.in-Ok.ensures ∙ c.name.ensures)) c.in-Ok-note.ensures

pub returns : goal.returns
returns g c =
    cut c.args.terms.free (FillsNet c.args.terms.free c.args.n.0) (Perhaps (FillsNet c.args.terms.free c.args.n.0)) c.args.net.now _ _ _ _
    (Through (stays_so c.args.terms.free c.args.net.now c.args.n.0 c.args.why _ c.requires.unfilled c.requires.stays (c.in-Ok.ensures ∙ c.name.ensures))) c.in-Err-note.ensures
