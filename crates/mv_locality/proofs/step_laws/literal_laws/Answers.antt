-- Each law is a lemma.
use Rattle.mv_locality.proofs.Fewer.{removes_no_more, wires_no_more, collapses_no_more}
use Rattle.mv_locality.proofs.step_laws.literal_laws.Goals as goal

pub returns : goal.returns
returns c = record { removed = removes_no_more; wired = wires_no_more; collapsed = collapses_no_more }
