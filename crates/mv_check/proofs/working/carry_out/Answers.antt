-- How the work ends, behind the steps.
use Rattle.std.proofs.Common.{inr, refl}
use Rattle.mv_task.specs.Ends.{Done, OutputCut, NotesCut}
use Rattle.mv_format.specs.Chosen.{format_of}
use Rattle.mv_check.proofs.Works.{ends_early, has_replayed, settings_kept}
use Rattle.mv_check.proofs.working.carry_out.Goals as goal

pub write_network-requires : goal.write_network-requires
write_network-requires g c =
    let replays = rw c.as_slice.ensures at c.in-Ok.ensures.replays in
    settings_kept c.args.format _ _ _ c.replay.new.net c.requires replays

pub returns-in-Err : goal.returns-in-Err
returns-in-Err g c =
    let stops = rw c.as_slice.ensures at c.in-Err.ensures.stops in
    ends_early (format_of c.args.format) _ _ _ c.args.file _ _ _ _ _ refl stops c.refuse_replay.ensures

pub returns-in-Err-put_done : goal.returns-in-Err-put_done
returns-in-Err-put_done g c =
    let replays = rw c.as_slice.ensures at c.in-Ok.ensures.replays in
    let does = has_replayed c.args.format _ _ _ c.replay.new.net _ c.literals-before.ensures replays in
    NotesCut refl c.in-Err-put_done.ensures.cause.failed refl _ (inr (_, does)) c.in-Err-put_done.ensures.part

pub returns : goal.returns
returns g c =
    let replays = rw c.as_slice.ensures at c.in-Ok.ensures.replays in
    let does = has_replayed c.args.format _ _ _ c.replay.new.net _ c.literals-before.ensures replays in
    OutputCut refl c.in-Err-write_network.ensures.cause.failed _ _ does c.in-Ok-put_done.ensures.ok c.in-Err-write_network.ensures.part

pub returns-in-Ok-write_network : goal.returns-in-Ok-write_network
returns-in-Ok-write_network g c =
    let replays = rw c.as_slice.ensures at c.in-Ok.ensures.replays in
    let does = has_replayed c.args.format _ _ _ c.replay.new.net _ c.literals-before.ensures replays in
    Done refl (record { noted = _; written = _; does = does; notes = c.in-Ok-put_done.ensures.ok; out = c.in-Ok-write_network.ensures.ok })
