-- Each law is a lemma, at a place that is kept.
use Rattle.mv_locality.proofs.Places.{place_kept}
use Rattle.mv_locality.proofs.Savings.{change_same, saving_both}
use Rattle.mv_locality.proofs.laws.saving_laws.Goals as goal

pub returns : goal.returns
returns c = record {
  change = λ old new inner formed stays. change_same old new inner formed stays.formed (place_kept old new inner.net.0 stays).around;
  saves = saving_both;
}
