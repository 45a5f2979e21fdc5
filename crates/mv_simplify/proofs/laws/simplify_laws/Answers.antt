-- The lemmas say it.
use Rattle.mv_simplify.proofs.Simplified.{some_no_more, some_replays}
use Rattle.mv_simplify.proofs.laws.simplify_laws.Goals as goal

pub returns : goal.returns
returns c = record {
  replays = λ free terms d u old new steps t. some_replays free terms d u old new steps t;
  no_more = λ terms d u old new steps formed t. some_no_more terms d u old new steps formed t;
}
