use Rattle.mv_trace.proofs.Assigned.{assigned, allowed}
use Rattle.mv_trace.proofs.Lawful.{given_lawful}
use Rattle.mv_trace.proofs.laws.step_laws.Goals as goal

pub returns : goal.returns
returns c = record { assigned = assigned; allowed = allowed; lawful = given_lawful }
