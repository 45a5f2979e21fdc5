use Rattle.mv_alike.proofs.Choosing.{next_lawful, next_one, next_unlike_none}
use Rattle.mv_alike.proofs.law.next_merge_laws.Goals as goal

pub returns-clause-lawful : goal.returns-clause-lawful
returns-clause-lawful c = next_lawful

pub returns-clause-one : goal.returns-clause-one
returns-clause-one c = λ net. next_one net.nets

pub returns-clause-none : goal.returns-clause-none
returns-clause-none c = next_unlike_none
