-- Each law is a lemma.
use Rattle.mv_meaning.proofs.Changing.{changed-given, changed-rewritten, changed-collapsed, changed-added}
use Rattle.mv_meaning.proofs.laws.change_laws.Goals as goal

pub returns : goal.returns
returns c = record { one = changed-given; readers = changed-rewritten; gone = changed-collapsed; added = changed-added }
