-- A stage gives nothing, or the work ends.
use Rattle.std.proofs.Common.{[], ◌∷◌, refl}
use Rattle.mv_format.specs.Chosen.{format_of}
use Rattle.mv_format.specs.Faults.{net_line}
use Rattle.mv_format.specs.Formats.{network_stage}
use Rattle.mv_task.specs.Ends.{Worked}
use Rattle.mv_task.specs.Sources.{File}
use Rattle.mv_task.proofs.Building.{came_none, came_more, stops, both_said}
use Rattle.mv_opt.specs.declared.output.Output.TheVariants.{Network}
use Rattle.mv_opt.specs.Optimised.{opt_work}
use Rattle.mv_opt.specs.Scripts.{refusal_line, script_stage}
use Rattle.mv_opt.proofs.optimising.optimise.Goals as goal

pub returns-in-Err : goal.returns-in-Err
returns-in-Err g c =
    let stop = c.in-Err.ensures in
    stops refusal_line [] (script_stage c.args.script.now) (network_stage (format_of c.args.format) (File c.args.network.now) ∷ []) _ _ _ _ _ _ (came_none _) stop.begun refl stop.stops c.refuse.ensures.status c.refuse.ensures.tells

pub returns-in-Err-take_network : goal.returns-in-Err-take_network
returns-in-Err-take_network g c =
    let first = script_stage c.args.script.now in
    let script = c.in-Ok.ensures in
    let stop = c.in-Err-take_network.ensures in
    let tells = c.refuse-in-Err-take_network.ensures in
    stops net_line (first ∷ []) (network_stage (format_of c.args.format) (File c.args.network.now)) [] _ _ _ _ _ _ (came_more [] first (came_none _) script.gives script.begun) stop.begun refl stop.stops tells.status tells.tells

pub returns : goal.returns
returns g c =
    let first = script_stage c.args.script.now in
    let script = c.in-Ok.ensures in
    let net = c.in-Ok-take_network.ensures in
    let came = came_more (first ∷ []) (network_stage (format_of c.args.format) (File c.args.network.now)) (came_more [] first (came_none _) script.gives script.begun) net.gives net.begun in
    Worked _ came.read (both_said (opt_work (format_of c.args.format) c.args.terms Network) _ _ _ script.gives net.gives c.carry_out.ensures)
