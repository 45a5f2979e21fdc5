use Rattle.mv_coding.proofs.Behind.{behind_few, behind_formed, behind_means, behind_total, behind_total_bits}
use Rattle.mv_coding.proofs.law.coding_laws.Goals as goal

pub returns-clause-formed : goal.returns-clause-formed
returns-clause-formed c = λ net n names codes formed unseen able. behind_formed net n names codes formed able unseen

pub returns-clause-means : goal.returns-clause-means
returns-clause-means c = λ net n names codes formed unseen able. behind_means net n names codes formed able unseen

pub returns-clause-total : goal.returns-clause-total
returns-clause-total c = λ net n names codes k formed able ne total. behind_total net n names codes formed able k ne total

pub returns-clause-total_bits : goal.returns-clause-total_bits
returns-clause-total_bits c = λ net n names codes i formed able low total. behind_total_bits net n names codes formed able i low total

pub returns-clause-few : goal.returns-clause-few
returns-clause-few c = λ net n names codes k formed able. behind_few net n names codes formed able k
