-- The numbers so far don't pass the limit, and what comes of those that are left comes of all.
use Rattle.std.proofs.Common.{◌≡◌, ◌≤◌, drop}
use Rattle.mv_base.specs.declared.limits.TheConstants.{MAX_SCRIPT_COMMANDS}
use Rattle.mv_script.specs.Scripts.{passing}
use Rattle.mv_script.proofs.count.passing.Given as goal

abbrev pub invariant-loop-at : goal.invariant-loop-at
invariant-loop-at l = record {
  small : l.count ≤ MAX_SCRIPT_COMMANDS;
  same : passing l.count (drop l.at l.counts) (drop l.at l.places) ≡ passing 0 l.counts l.places;
}
