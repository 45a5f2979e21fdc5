use Rattle.std.proofs.Common.{◌≡◌, length}
use Rattle.mv_dag.proofs.Firsts.{AreLabelled}
use Rattle.mv_dag.proofs.orders.first_labels.Given as goal

abbrev pub invariant-loop-place : goal.invariant-loop-place
invariant-loop-place l = record {
  long : length l.labels.items ≡ length l.fanins;
  each : AreLabelled l.order l.labels.items l.place;
}
