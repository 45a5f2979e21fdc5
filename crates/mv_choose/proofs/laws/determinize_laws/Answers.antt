-- The lemmas say it.
use Rattle.mv_choose.proofs.Determinized.{determinizes_replay}
use Rattle.mv_choose.proofs.Ended.{all_settled}
use Rattle.mv_choose.proofs.laws.determinize_laws.Goals as goal

pub returns : goal.returns
returns c = record {
  replays = λ free old new steps v. determinizes_replay free old new steps v;
  plain = λ old new steps formed all n table is. all_settled old new steps formed all n table is;
}
