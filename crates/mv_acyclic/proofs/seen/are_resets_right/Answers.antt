-- Where no fault of them is told, they are right.
use Rattle.mv_acyclic.proofs.ResetFaults.{resets_of_latches}
use Rattle.mv_acyclic.proofs.seen.are_resets_right.Goals as goal

pub returns-in-Ok : goal.returns-in-Ok
returns-in-Ok c = resets_of_latches c.args.model.now c.in-Ok.ensures
