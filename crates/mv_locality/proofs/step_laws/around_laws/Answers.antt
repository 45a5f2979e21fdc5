-- Each law is a lemma.
use Rattle.mv_locality.proofs.Steps.{removes_around, wires_around, collapses_around}
use Rattle.mv_locality.proofs.step_laws.around_laws.Goals as goal

pub returns : goal.returns
returns c = record { removed = removes_around; wired = wires_around; collapsed = collapses_around }
