-- Each law is a lemma, at a place that is kept.
use Rattle.mv_locality.proofs.Places.{both_ways, far_stays, place_kept, reads-same, HasOneReader-same, AreNarrow-both}
use Rattle.mv_locality.proofs.laws.place_laws.Goals as goal

pub returns : goal.returns
returns c = record {
  far = far_stays;
  reads = λ old new n stays. reads-same old.nets new.nets n (place_kept old new n stays).around;
  one = both_ways _ (λ old new n keeps. HasOneReader-same old.nets new.nets n keeps.around);
  narrow = AreNarrow-both;
}
