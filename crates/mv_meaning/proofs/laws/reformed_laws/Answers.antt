-- Each law is a lemma.
use Rattle.mv_meaning.proofs.Reformed.{reformed_formed, same_agreeing}
use Rattle.mv_meaning.proofs.Following.{along_formed}
use Rattle.mv_meaning.proofs.laws.reformed_laws.Goals as goal

pub returns : goal.returns
returns c = record {
  formed = reformed_formed;
  along = along_formed;
  means = λ net nets reformed same. same_agreeing net nets reformed (λ x. (same x).0) (λ x. (same x).1);
}
