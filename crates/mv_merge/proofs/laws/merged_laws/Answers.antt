-- Each law is a lemma.
use Rattle.mv_merge.proofs.Merged.{each_given, all_apart}
use Rattle.mv_merge.proofs.laws.merged_laws.Goals as goal

pub returns : goal.returns
returns c = record { given = each_given; apart = all_apart }
