-- Each law is a lemma.
use Rattle.mv_meaning.proofs.Filling.{filling_formed, filling_means, filling_refines}
use Rattle.mv_meaning.proofs.laws.filling_laws.Goals as goal

pub returns : goal.returns
returns c = record {
  formed = filling_formed;
  means = filling_means;
  refines = filling_refines;
}
