-- The laws are lemmas.
use Rattle.mv_narrow.proofs.OneWindow.{one_window, one_verdict}
use Rattle.mv_narrow.proofs.law.verdict_laws.Goals as goal

pub returns : goal.returns
returns c = record { window = one_window; verdict = one_verdict }
