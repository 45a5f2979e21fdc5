-- The lemma says it.
use Rattle.mv_cert.proofs.Replayed.{never_both}
use Rattle.mv_cert.proofs.laws.never_both_replays.Goals as goal

pub returns : goal.returns
returns c = never_both
