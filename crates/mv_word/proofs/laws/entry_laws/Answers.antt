-- Each law of words is a lemma.
use Rattle.mv_word.proofs.Saying.{says_all, says_name, says_lacks, says_list, are_items}
use Rattle.mv_word.proofs.laws.entry_laws.Goals as goal

pub returns : goal.returns
returns c = record { all = says_all; name = says_name; lacks = says_lacks; list = says_list; items = are_items }
