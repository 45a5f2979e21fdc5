-- The note has the name of the net.
use Rattle.std.proofs.Common.{◌∙◌, refl}
use Rattle.mv_pass.specs.Courses.{Perhaps, Still, Through}
use Rattle.mv_pass.proofs.Stepped.{stuck, told, cut}
use Rattle.mv_visit.specs.Visits.{IsNoted}
use Rattle.mv_visit.proofs.Tabled.{note_visible, noted_so, tabled_held}
use Rattle.mv_visit.proofs.visit.note_why.Goals as goal

pub name-requires : goal.name-requires
name-requires g c = tabled_held c.args.net.now.nets c.args.n.0 c.requires

pub note-requires : goal.note-requires
note-requires g c = note_visible c.args.net.now c.args.n.0 c.args.why _ c.well_formed-2.ensures c.requires (c.in-Ok.ensures ∙ c.name.ensures)

pub returns-in-Err : goal.returns-in-Err
returns-in-Err g c free = stuck free (IsNoted c.args.n.0 c.args.why) (Perhaps (IsNoted c.args.n.0 c.args.why)) c.args.net.now _ (Still (refl, refl))

pub returns-in-Ok-note : goal.returns-in-Ok-note
returns-in-Ok-note g c free =
    told free (IsNoted c.args.n.0 c.args.why) (Perhaps (IsNoted c.args.n.0 c.args.why)) c.args.net.now _ _ _
    (noted_so c.args.net.now c.args.n.0 c.args.why _ (c.in-Ok.ensures ∙ c.name.ensures)) c.in-Ok-note.ensures

pub returns : goal.returns
returns g c free =
    cut free (IsNoted c.args.n.0 c.args.why) (Perhaps (IsNoted c.args.n.0 c.args.why)) c.args.net.now _ _ _ _
    (Through (noted_so c.args.net.now c.args.n.0 c.args.why _ (c.in-Ok.ensures ∙ c.name.ensures))) c.in-Err-note.ensures
