-- Each law is a lemma, from the old network to the new and back.
use Rattle.mv_locality.proofs.Places.{both_ways, RemoveRow-same, WireRow-same, CollapseRow-same}
use Rattle.mv_locality.proofs.laws.row_laws.Goals as goal

pub returns : goal.returns
returns c = record {
  remove = λ old new n f. both_ways _ (RemoveRow-same f) old new n;
  wire = λ old new n f. both_ways _ (WireRow-same f) old new n;
  collapse = λ old new n f. both_ways _ (CollapseRow-same f) old new n;
}
