-- Those of the nets so far are counted.
use Rattle.std.proofs.Common.{◌≡◌, ◌≤◌, take, count_by}
use Rattle.mv_opt.specs.Outputs.{is_told}
use Rattle.mv_opt.proofs.output.nets_told.Given as goal

abbrev pub invariant-loop-net : goal.invariant-loop-net
invariant-loop-net l = record {
  counted : l.count ≡ count_by is_told (take l.net-index l.nets);
  few : l.count ≤ l.net-index;
}
