-- Each law is a lemma.
use Rattle.mv_blif_rules.proofs.Replayed.{replayed_binary, replayed_said, replayed_written}
use Rattle.mv_blif_rules.proofs.laws.blif_rules.Goals as goal

pub returns : goal.returns
returns c = record { binary = replayed_binary; said = replayed_said; means = replayed_written }
