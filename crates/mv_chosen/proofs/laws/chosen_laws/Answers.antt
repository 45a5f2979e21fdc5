-- Each law is a lemma.
use Rattle.mv_chosen.proofs.Choosing.{chosen_refines, chosen_total}
use Rattle.mv_chosen.proofs.laws.chosen_laws.Goals as goal

pub returns : goal.returns
returns c = record {
  refines = λ free net nets formed total are. chosen_refines net nets formed total are free;
  total = chosen_total;
}
