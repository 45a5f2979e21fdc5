-- The lemmas say it.
use Rattle.mv_script.proofs.OneAnswer.{judged, no_script, one_script, one_fault}
use Rattle.mv_script.proofs.laws.script_laws.Goals as goal

pub returns-clause-judged : goal.returns-clause-judged
returns-clause-judged c = judged

pub returns-clause-apart : goal.returns-clause-apart
returns-clause-apart c = no_script

pub returns-clause-one_script : goal.returns-clause-one_script
returns-clause-one_script c = one_script

pub returns-clause-one_fault : goal.returns-clause-one_fault
returns-clause-one_fault c = one_fault
