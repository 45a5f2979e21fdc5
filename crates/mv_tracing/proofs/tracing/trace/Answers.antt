-- A stage gives nothing, or the work ends.
use Rattle.std.proofs.Common.{[], ◌∷◌, refl}
use Rattle.mv_blif_read.specs.declared.network.FileNetwork.{FileNetwork}
use Rattle.mv_format.specs.BlifMv.{blif_mv}
use Rattle.mv_format.specs.Faults.{net_line}
use Rattle.mv_format.specs.Formats.{network_stage}
use Rattle.mv_task.specs.Ends.{Worked}
use Rattle.mv_task.specs.Sources.{File}
use Rattle.mv_task.proofs.Building.{came_none, came_more, stops, both_said}
use Rattle.mv_tracing.specs.RunFiles.{refusal_line, run_stage}
use Rattle.mv_tracing.specs.Traced.{trace_work}
use Rattle.mv_tracing.proofs.tracing.trace.Goals as goal

pub returns-in-Err : goal.returns-in-Err
returns-in-Err g c =
    let stop = c.in-Err.ensures in
    stops net_line [] (network_stage blif_mv (File c.args.network.now)) (run_stage c.args.run.now ∷ []) _ _ _ _ _ _ (came_none _) stop.begun refl stop.stops c.refuse.ensures.status c.refuse.ensures.tells

pub returns-in-Err-take_lines : goal.returns-in-Err-take_lines
returns-in-Err-take_lines g c =
    let first = network_stage blif_mv (File c.args.network.now) in
    let net = c.in-Ok.ensures in
    let stop = c.in-Err-take_lines.ensures in
    let tells = c.refuse-in-Err-take_lines.ensures in
    stops refusal_line (first ∷ []) (run_stage c.args.run.now) [] _ _ _ _ _ _ (came_more [] first (came_none _) net.gives net.begun) stop.begun refl stop.stops tells.status tells.tells

pub returns : goal.returns
returns g c =
    let first = network_stage blif_mv (File c.args.network.now) in
    let net = c.in-Ok.ensures in
    let lines = c.in-Ok-take_lines.ensures in
    let came = came_more (first ∷ []) (run_stage c.args.run.now) (came_more [] first (came_none _) net.gives net.begun) lines.gives lines.begun in
    Worked _ came.read (both_said (λ (f : FileNetwork). trace_work f.net) _ _ _ net.gives lines.gives c.carry_out.ensures)
