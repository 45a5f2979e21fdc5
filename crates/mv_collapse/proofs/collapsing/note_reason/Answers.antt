-- The note is the one step.
use Rattle.std.proofs.Common.{refl}
use Rattle.mv_pass.specs.Courses.{Perhaps, Still, Through}
use Rattle.mv_pass.proofs.Stepped.{stuck, told, cut}
use Rattle.mv_collapse.specs.Collapses.{CollapsesNet}
use Rattle.mv_collapse.proofs.Reasons.{remains_so}
use Rattle.mv_collapse.proofs.collapsing.note_reason.Goals as goal

pub returns-in-Err : goal.returns-in-Err
returns-in-Err g c = stuck c.args.terms.free (CollapsesNet c.args.terms.free c.args.name.now) (Perhaps (CollapsesNet c.args.terms.free c.args.name.now)) c.args.net.now _ (Still (refl, refl))

pub returns-in-Ok-put_note : goal.returns-in-Ok-put_note
returns-in-Ok-put_note g c =
    told c.args.terms.free (CollapsesNet c.args.terms.free c.args.name.now) (Perhaps (CollapsesNet c.args.terms.free c.args.name.now)) c.args.net.now _ _ _
    (remains_so c.args.terms.free c.args.name.now _ c.args.why c.args.net.now c.in-Ok.ensures c.requires.stays) c.in-Ok-put_note.ensures

pub returns-in-Err-put_note : goal.returns-in-Err-put_note
returns-in-Err-put_note g c =
    cut c.args.terms.free (CollapsesNet c.args.terms.free c.args.name.now) (Perhaps (CollapsesNet c.args.terms.free c.args.name.now)) c.args.net.now _ _ _ _
    (Through (remains_so c.args.terms.free c.args.name.now _ c.args.why c.args.net.now c.in-Ok.ensures c.requires.stays)) c.in-Err-put_note.ensures
