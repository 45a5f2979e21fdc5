use Rattle.mv_trace.proofs.Spelled.{run_spelled, spelled_run}
use Rattle.mv_trace.proofs.laws.run_laws.Goals as goal

pub returns : goal.returns
returns c = record { spelled = run_spelled; read = spelled_run }
