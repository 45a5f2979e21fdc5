-- Each law of refinement is a lemma.
use Rattle.mv_base.proofs.Meanings.{Refines-refl, Refines-then, Refines-free}
use Rattle.mv_net.specs.Allowed.{of_net}
use Rattle.mv_net.proofs.laws.refinement_laws.Goals as goal

pub returns : goal.returns
returns c = record {
  itself = λ free a. Refines-refl free (of_net a);
  steps = λ free a b c. Refines-then free (of_net c) (of_net b) (of_net a);
  free = λ free a b. Refines-free free (of_net b) (of_net a);
}
