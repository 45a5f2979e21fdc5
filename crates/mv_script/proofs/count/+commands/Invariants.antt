-- What was counted and what the items left have are together what the script has; and the items left are no deeper than the script.
use Rattle.std.proofs.Common.{◌≡◌, ◌+◌, ◌≤◌, min}
use Rattle.mv_base.specs.declared.limits.TheConstants.{MAX_SCRIPT_COMMANDS as most_commands}
use Rattle.mv_script.specs.declared.script.Script.{size-Script}
use Rattle.mv_script.specs.Scripts.{items_of, commands_in}
use Rattle.mv_script.proofs.count.+commands.Given as goal

abbrev pub decreases-commands : goal.decreases-commands
decreases-commands l = goal.size-commands l

abbrev pub invariant-loop-items : goal.invariant-loop-items
invariant-loop-items l = record {
  counted : min (l.count + commands_in (items_of l.items)) (most_commands + 1) ≡ min (commands_in (items_of l.fn.script)) (most_commands + 1);
  small : l.count ≤ most_commands + 1;
  no_deeper : size-Script l.items ≤ size-Script l.fn.script;
}
