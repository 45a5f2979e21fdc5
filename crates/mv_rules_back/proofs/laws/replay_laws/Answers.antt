-- Each law is a lemma.
use Rattle.mv_rules_back.proofs.Replaying.{print_lists, replayed_from_print}
use Rattle.mv_rules_back.proofs.laws.replay_laws.Goals as goal

pub returns : goal.returns
returns c = record { lists = print_lists; replays = replayed_from_print }
