-- A stage gives nothing, or the work ends; no file is begun for a network that is drawn.
use Rattle.std.proofs.Common.{[], ◌∷◌, refl}
use Rattle.mv_format.specs.BlifMv.{blif_mv}
use Rattle.mv_format.specs.Faults.{net_line}
use Rattle.mv_format.specs.Formats.{network_stage}
use Rattle.mv_task.specs.Ends.{Worked}
use Rattle.mv_task.proofs.Building.{came_none, came_more, stops, both_said, text_begun}
use Rattle.mv_opt.specs.declared.output.Output.TheVariants.{Summary}
use Rattle.mv_opt.specs.Optimised.{drawn, opt_work}
use Rattle.mv_opt.specs.Scripts.{refusal_line, script_stage}
use Rattle.mv_opt.proofs.drawn.work.Goals as goal

pub returns-in-Err : goal.returns-in-Err
returns-in-Err g c =
    let stop = c.in-Err.ensures in
    stops refusal_line [] (script_stage c.args.script.now) (network_stage blif_mv (drawn c.args.size c.args.seed) ∷ []) _ _ _ _ _ _ (came_none _) stop.begun refl stop.stops c.refuse.ensures.status c.refuse.ensures.tells

pub returns-in-Err-take_drawn : goal.returns-in-Err-take_drawn
returns-in-Err-take_drawn g c =
    let first = script_stage c.args.script.now in
    let drawing = network_stage blif_mv (drawn c.args.size c.args.seed) in
    let mid = g.F.Files.state c.take_script.new.files in
    let script = c.in-Ok.ensures in
    let tells = c.refuse-in-Err-take_drawn.ensures in
    stops net_line (first ∷ []) drawing [] _ _ _ _ _ _ (came_more [] first (came_none _) script.gives script.begun) (text_begun drawing mid refl) refl (c.in-Err-take_drawn.ensures.stops mid) tells.status tells.tells

pub returns : goal.returns
returns g c =
    let first = script_stage c.args.script.now in
    let drawing = network_stage blif_mv (drawn c.args.size c.args.seed) in
    let mid = g.F.Files.state c.take_script.new.files in
    let script = c.in-Ok.ensures in
    let net = c.in-Ok-take_drawn.ensures.gives mid in
    let came = came_more (first ∷ []) drawing (came_more [] first (came_none _) script.gives script.begun) net (text_begun drawing mid refl) in
    Worked _ came.read (both_said (opt_work blif_mv c.args.terms Summary) _ _ _ script.gives net c.carry_out.ensures)
