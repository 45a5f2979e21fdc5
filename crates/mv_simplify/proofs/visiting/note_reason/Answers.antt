-- The note has the name of the net.
use Rattle.std.proofs.Common.{◌∙◌, refl}
use Rattle.mv_pass.specs.Courses.{Perhaps, Still, Through}
use Rattle.mv_pass.proofs.Stepped.{stuck, told, cut}
use Rattle.mv_simplify.specs.Simplifying.{Visit}
use Rattle.mv_simplify.proofs.Taking.{tabled_held, note_visible, stays_so}
use Rattle.mv_simplify.proofs.visiting.note_reason.Goals as goal

pub name-requires : goal.name-requires
name-requires g c = tabled_held c.args.net.now.nets c.args.n.0 c.requires.table

pub note-requires : goal.note-requires
note-requires g c = note_visible c.args.net.now c.args.n.0 c.args.why _ c.well_formed-2.ensures c.requires.table (c.in-Ok.ensures ∙ c.name.ensures)

pub returns-in-Err : goal.returns-in-Err
returns-in-Err g c = stuck c.args.asked.terms.free (Visit c.args.asked c.args.n.0) (Perhaps (Visit c.args.asked c.args.n.0)) c.args.net.now _ (Still (refl, refl))

pub returns-in-Ok-note : goal.returns-in-Ok-note
returns-in-Ok-note g c =
    told c.args.asked.terms.free (Visit c.args.asked c.args.n.0) (Perhaps (Visit c.args.asked c.args.n.0)) c.args.net.now _ _ _
    (stays_so c.args.asked c.args.net.now c.args.n.0 c.args.why _ c.requires.table c.requires.keeps (c.in-Ok.ensures ∙ c.name.ensures)) c.in-Ok-note.ensures

pub returns : goal.returns
returns g c =
    cut c.args.asked.terms.free (Visit c.args.asked c.args.n.0) (Perhaps (Visit c.args.asked c.args.n.0)) c.args.net.now _ _ _ _
    (Through (stays_so c.args.asked c.args.net.now c.args.n.0 c.args.why _ c.requires.table c.requires.keeps (c.in-Ok.ensures ∙ c.name.ensures))) c.in-Err-note.ensures
