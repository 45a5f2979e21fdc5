-- The law is a lemma.
use Rattle.mv_entries_back.proofs.Lawful.{net_name-text}
use Rattle.mv_entries_back.proofs.laws.name_laws.Goals as goal

pub returns : goal.returns
returns c = net_name-text
