-- The law is a lemma.
use Rattle.mv_narrow.proofs.Less.{less_inside}
use Rattle.mv_narrow.proofs.law.less_is_inside.Goals as goal

pub returns : goal.returns
returns c = less_inside
