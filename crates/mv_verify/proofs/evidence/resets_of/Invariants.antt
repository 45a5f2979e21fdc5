use Rattle.std.proofs.Common.{◌≡◌, ◌≤◌, ◌++◌, drop}
use Rattle.mv_verify.specs.Evidence.{spread}
use Rattle.mv_verify.proofs.evidence.resets_of.Given as goal

abbrev pub invariant-loop-latch : goal.invariant-loop-latch
invariant-loop-latch l = record {
  few : l.place ≤ l.latch-index;
  spread : l.resets.items ++ spread (drop l.latch-index l.latches) (drop l.place l.values) ≡ spread l.latches l.values;
}
