use Rattle.mv_merging.proofs.Merged.{behind_few, behind_formed, behind_means, behind_total}
use Rattle.mv_merging.proofs.law.merging_laws.Goals as goal

pub returns-clause-formed : goal.returns-clause-formed
returns-clause-formed c = λ net n gone into formed some unseen lawful. behind_formed net n gone into some lawful formed unseen

pub returns-clause-means : goal.returns-clause-means
returns-clause-means c = λ net n gone into formed some unseen lawful. behind_means net n gone into some lawful formed unseen

pub returns-clause-total : goal.returns-clause-total
returns-clause-total c = λ net n gone into k formed some lawful. behind_total net n gone into some lawful formed k

pub returns-clause-few : goal.returns-clause-few
returns-clause-few c = λ net n gone into k some lawful. behind_few net n gone into some lawful k
