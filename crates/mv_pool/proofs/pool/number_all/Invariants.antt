use Rattle.std.proofs.Common.{◌+◌, take}
use Rattle.indexmap.specs.IndexMap.{index_map_len, spare}
use Rattle.mv_pool.proofs.Keeping.{AreNumbered}
use Rattle.mv_pool.proofs.pool.number_all.Given as goal

abbrev pub invariant-loop-at : goal.invariant-loop-at
invariant-loop-at g l = AreNumbered g.T.PartialEq.eq l.numbers (take l.at l.places) (index_map_len l.fn.numbers + spare l.fn.numbers)
