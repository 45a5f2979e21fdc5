-- How the work ends, behind what the commands put to the notes.
use Rattle.std.proofs.Common.{Err, inl, inr, refl, ap}
use Rattle.mv_base.proofs.Gains.{Gained-then, GainedPart-then}
use Rattle.mv_base.proofs.OutsideLemmas.{Rose-earlier}
use Rattle.mv_task.specs.Ends.{Done, OutputCut, NotesCut, Stopped}
use Rattle.mv_task.proofs.Telling.{TellsBehind-from}
use Rattle.mv_opt.proofs.Works.{has_worked, has_stopped, settings_kept}
use Rattle.mv_opt.proofs.working.carry_out.Goals as goal

pub put_output-requires : goal.put_output-requires
put_output-requires g c = settings_kept c.args.format _ _ _ c.run_noted.new.net _ _ _ c.requires.settings c.in-Ok.ensures.ok

pub returns-in-Err-Note : goal.returns-in-Err-Note
returns-in-Err-Note g c =
    let stop = c.in-Err-Note.ensures in
    let e = ap Err c.in-Err-Note.field-0-is in
    let p = stop.note e in
    NotesCut refl (stop.cause e) refl _ (inl (has_stopped _ _ _ _ p)) p.put

pub returns-in-Err-Memory : goal.returns-in-Err-Memory
returns-in-Err-Memory g c =
    let stop = c.in-Err-Memory.ensures in
    let p = stop.memory (ap Err c.in-Err-Memory.field-0-is) in
    Stopped refl refl _ (inr (has_stopped _ _ _ _ p)) (TellsBehind-from _ _ _ _ _ p.put stop.later c.tell.ensures)

pub returns-in-Err : goal.returns-in-Err
returns-in-Err g c =
    let ran = c.in-Ok.ensures.ok in
    let does = has_worked c.args.format _ c.args.output _ _ c.run_noted.new.net _ _ _ _ c.literals-before.ensures ran c.requires.lawful c.well_formed-2.ensures c.requires.names in
    let part = GainedPart-then (g.E.Sink.state c.args.notes.now) (g.E.Sink.state c.run_noted.new.notes) (g.E.Sink.state c.put_done.new.notes) _ _ ran.gained c.in-Err.ensures.part in
    NotesCut refl (Rose-earlier _ _ _ c.in-Ok.ensures.later c.in-Err.ensures.cause.failed) refl _ (inr (_, does)) part

pub returns : goal.returns
returns g c =
    let ran = c.in-Ok.ensures.ok in
    let does = has_worked c.args.format _ c.args.output _ _ c.run_noted.new.net _ _ _ _ c.literals-before.ensures ran c.requires.lawful c.well_formed-2.ensures c.requires.names in
    let notes = Gained-then (g.E.Sink.state c.args.notes.now) (g.E.Sink.state c.run_noted.new.notes) (g.E.Sink.state c.put_done.new.notes) _ _ ran.gained c.in-Ok-put_done.ensures.ok in
    OutputCut refl c.in-Err-put_output.ensures.cause.failed _ _ does notes c.in-Err-put_output.ensures.part

pub returns-in-Ok-put_output : goal.returns-in-Ok-put_output
returns-in-Ok-put_output g c =
    let ran = c.in-Ok.ensures.ok in
    let does = has_worked c.args.format _ c.args.output _ _ c.run_noted.new.net _ _ _ _ c.literals-before.ensures ran c.requires.lawful c.well_formed-2.ensures c.requires.names in
    let notes = Gained-then (g.E.Sink.state c.args.notes.now) (g.E.Sink.state c.run_noted.new.notes) (g.E.Sink.state c.put_done.new.notes) _ _ ran.gained c.in-Ok-put_done.ensures.ok in
    Done refl (record { noted = _; written = _; does = does; notes = notes; out = c.in-Ok-put_output.ensures.ok })
