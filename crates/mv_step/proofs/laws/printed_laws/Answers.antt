use Rattle.mv_step.proofs.Listed.{lists_printed}
use Rattle.mv_step.proofs.laws.printed_laws.Goals as goal

pub returns : goal.returns
returns c = lists_printed
