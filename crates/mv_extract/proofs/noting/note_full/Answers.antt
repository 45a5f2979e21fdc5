-- The note has the fresh name.
use Rattle.std.proofs.Common.{refl}
use Rattle.mv_entry.specs.declared.note.Note.TheVariants.{Dropped}
use Rattle.mv_entry.specs.declared.note.Why.TheVariants.{Nets}
use Rattle.mv_entry.specs.Entries.{Noted}
use Rattle.mv_entry.proofs.Visible.{visible-net, visible-one}
use Rattle.mv_pass.specs.Courses.{Perhaps, Still, Through}
use Rattle.mv_pass.proofs.Stepped.{stuck, told, cut}
use Rattle.mv_extract.specs.Dividing.{behind_of, behind_some, candidates_of}
use Rattle.mv_extract.specs.Extracts.{EndsBy, IsFull, NoRoom}
use Rattle.mv_extract.proofs.noting.note_full.Goals as goal

pub note-requires : goal.note-requires
note-requires g c = visible-one (Noted (Dropped Nets _)) _ refl (visible-net _ c.in-Ok.ensures.lawful)

pub returns-in-Err : goal.returns-in-Err
returns-in-Err g c =
    let Candidate = candidates_of c.args.divisors in
    stuck c.args.terms.free (EndsBy Candidate (behind_of c.args.divisors)) (Perhaps (EndsBy Candidate (behind_some c.args.divisors))) c.args.net.now _ (Still (refl, refl))

pub returns-in-Ok-note : goal.returns-in-Ok-note
returns-in-Ok-note g c =
    let Candidate = candidates_of c.args.divisors in
    let full : IsFull Candidate c.args.net.now _ = record { divisor = c.args.divisor.now; best = c.requires.best; full = c.requires.full; fresh = c.in-Ok.ensures.fresh; lawful = c.in-Ok.ensures.lawful } in
    told c.args.terms.free (EndsBy Candidate (behind_of c.args.divisors)) (Perhaps (EndsBy Candidate (behind_some c.args.divisors))) c.args.net.now _ _ _
    (NoRoom _ full refl refl) c.in-Ok-note.ensures

pub returns : goal.returns
returns g c =
    let Candidate = candidates_of c.args.divisors in
    let full : IsFull Candidate c.args.net.now _ = record { divisor = c.args.divisor.now; best = c.requires.best; full = c.requires.full; fresh = c.in-Ok.ensures.fresh; lawful = c.in-Ok.ensures.lawful } in
    cut c.args.terms.free (EndsBy Candidate (behind_of c.args.divisors)) (Perhaps (EndsBy Candidate (behind_some c.args.divisors))) c.args.net.now _ _ _ _
    (Through (NoRoom _ full refl refl)) c.in-Err-note.ensures
