use Rattle.std.proofs.Common.{◌≡◌, ◌++◌, drop}
use Rattle.mv_base.specs.declared.limits.TheConstants.{MAX_FLAT_NETS}
use Rattle.mv_unfold.specs.Named.{rest_faults, under}
use Rattle.mv_unfold.proofs.naming.add_names.Given as goal

abbrev pub invariant-loop-net : goal.invariant-loop-net
invariant-loop-net l = record {
  faults : rest_faults MAX_FLAT_NETS l.homes (under l.path (drop l.net-index l.nets)) ≡ rest_faults MAX_FLAT_NETS l.fn.homes (under l.path l.nets);
  added : l.homes ++ under l.path (drop l.net-index l.nets) ≡ l.fn.homes ++ under l.path l.nets;
}
