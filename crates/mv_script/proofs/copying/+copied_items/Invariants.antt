-- The copied items before those that are left are the items of the script; and the items left are no deeper than the script.
use Rattle.std.proofs.Common.{◌≡◌, ◌≤◌}
use Rattle.mv_script.specs.declared.script.Script.{size-Script}
use Rattle.mv_script.specs.Scripts.{items_of}
use Rattle.mv_script.specs.Copies.{chained}
use Rattle.mv_script.proofs.copying.+copied_items.Given as goal

abbrev pub decreases-copied_items : goal.decreases-copied_items
decreases-copied_items l = goal.size-copied_items l

abbrev pub invariant-loop-items : goal.invariant-loop-items
invariant-loop-items l = record {
  all : chained l.list (items_of l.items) ≡ items_of l.fn.script;
  no_deeper : size-Script l.items ≤ size-Script l.fn.script;
}
