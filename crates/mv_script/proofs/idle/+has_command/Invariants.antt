-- Among the items that are left is a command exactly where the script has one, and they are no deeper than it.
use Rattle.std.proofs.Common.{◌≡◌, ◌≤◌}
use Rattle.mv_script.specs.declared.script.Script.{size-Script}
use Rattle.mv_script.specs.Commands.{has_command}
use Rattle.mv_script.specs.Scripts.{items_of}
use Rattle.mv_script.proofs.idle.+has_command.Given as goal

abbrev pub decreases-has_command : goal.decreases-has_command
decreases-has_command l = goal.size-has_command l

abbrev pub invariant-loop-items : goal.invariant-loop-items
invariant-loop-items l = record {
  same : has_command (items_of l.items) ≡ has_command (items_of l.fn.script);
  no_deeper : size-Script l.items ≤ size-Script l.fn.script;
}
