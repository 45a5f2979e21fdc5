-- The items left, before those that were put together, are all items.
use Rattle.std.proofs.Common.{◌≡◌, length}
use Rattle.mv_script.specs.Scripts.{End, items_of}
use Rattle.mv_script.specs.Copies.{chained}
use Rattle.mv_script.proofs.copying.linked.Given as goal

abbrev pub invariant-loop-item : goal.invariant-loop-item
invariant-loop-item l = chained l.list (items_of l.rest) ≡ chained l.fn.list End

abbrev pub decreases-loop-item : goal.decreases-loop-item
decreases-loop-item l = length l.list
