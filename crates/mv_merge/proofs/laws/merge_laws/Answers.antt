-- Each law is a lemma.
use Rattle.mv_merge.proofs.Merged.{merges_replay, merges_no_more}
use Rattle.mv_merge.proofs.laws.merge_laws.Goals as goal

pub returns : goal.returns
returns c = record { replays = merges_replay; no_more = merges_no_more }
