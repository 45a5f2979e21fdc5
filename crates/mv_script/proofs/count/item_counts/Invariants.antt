-- The numbers so far, and behind them those of the items that are left, are all numbers.
use Rattle.std.proofs.Common.{◌≡◌, ◌++◌}
use Rattle.mv_script.specs.Scripts.{items_of, item_counts}
use Rattle.mv_script.specs.Private.{all_capped}
use Rattle.mv_script.proofs.count.item_counts.Given as goal

abbrev pub invariant-loop-items : goal.invariant-loop-items
invariant-loop-items l = l.counts ++ all_capped (item_counts (items_of l.items)) ≡ all_capped (item_counts (items_of l.fn.script))
