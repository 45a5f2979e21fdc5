-- Each law is a lemma.
use Rattle.mv_run.proofs.Traces.{only_refused, always_refused}
use Rattle.mv_run.proofs.laws.run_refused_exactly.Goals as goal

pub returns-clause-only : goal.returns-clause-only
returns-clause-only c = λ n. only_refused n

pub returns-clause-always : goal.returns-clause-always
returns-clause-always c = λ n. always_refused n
