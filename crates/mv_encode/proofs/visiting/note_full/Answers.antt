-- The note has the name of the net that was to come.
use Rattle.std.proofs.Common.{refl}
use Rattle.mv_entry.specs.declared.note.Note.TheVariants.{Dropped}
use Rattle.mv_entry.specs.declared.note.Why.TheVariants.{Nets}
use Rattle.mv_entry.specs.Entries.{Noted}
use Rattle.mv_entry.proofs.Visible.{visible-net, visible-one}
use Rattle.mv_pass.specs.Courses.{Perhaps, Through}
use Rattle.mv_pass.proofs.Stepped.{cut, told}
use Rattle.mv_encode.specs.Encodes.{RunsOut}
use Rattle.mv_encode.proofs.visiting.note_full.Goals as goal

pub note-requires : goal.note-requires
note-requires g c = visible-one (Noted (Dropped Nets c.args.name)) _ refl (visible-net _ c.requires.lawful)

pub returns-in-Ok : goal.returns-in-Ok
returns-in-Ok g c =
    told c.args.terms.free (RunsOut c.args.n.0) (Perhaps (RunsOut c.args.n.0)) c.args.net.now _ _ _
    (record { name = c.args.name; full = c.requires; entries_are = refl; same = refl }) c.in-Ok.ensures

pub returns : goal.returns
returns g c =
    cut c.args.terms.free (RunsOut c.args.n.0) (Perhaps (RunsOut c.args.n.0)) c.args.net.now _ _ _ _
    (Through (record { name = c.args.name; full = c.requires; entries_are = refl; same = refl })) c.in-Err.ensures
