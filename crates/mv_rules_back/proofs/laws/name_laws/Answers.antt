-- Each law is a lemma.
use Rattle.mv_rules_back.proofs.Short.{design_short, words_kept, replayed_words}
use Rattle.mv_rules_back.proofs.laws.name_laws.Goals as goal

pub returns : goal.returns
returns c = record { short = design_short; kept = words_kept; replayed = replayed_words }
