use Rattle.mv_base.proofs.NameLemmas.{IsDistinct-from_unique}
use Rattle.mv_base.proofs.name_set.NameSet.distinct.Goals as goal

-- the kit's set keeps its keys apart
pub returns : goal.returns
returns c = rw (← c.self.view_is) (IsDistinct-from_unique _ c.len.ensures.unique)
