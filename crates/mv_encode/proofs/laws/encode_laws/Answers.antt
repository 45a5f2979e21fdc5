-- The lemmas say it.
use Rattle.mv_encode.proofs.Ended.{all_settled}
use Rattle.mv_encode.proofs.Visited.{encodes_replay}
use Rattle.mv_encode.proofs.laws.encode_laws.Goals as goal

pub returns : goal.returns
returns c = record {
  replays = λ free old new steps some. encodes_replay free old new steps some;
  few = λ old new steps formed all n to. all_settled old new steps formed all n to;
}
