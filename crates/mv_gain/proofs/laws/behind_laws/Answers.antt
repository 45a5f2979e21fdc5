use Rattle.mv_gain.proofs.Behind.{right_removed, right_wired, right_collapsed}
use Rattle.mv_gain.proofs.laws.behind_laws.Goals as goal

pub returns-clause-removed : goal.returns-clause-removed
returns-clause-removed c = right_removed

pub returns-clause-wired : goal.returns-clause-wired
returns-clause-wired c = right_wired

pub returns-clause-collapsed : goal.returns-clause-collapsed
returns-clause-collapsed c = right_collapsed
