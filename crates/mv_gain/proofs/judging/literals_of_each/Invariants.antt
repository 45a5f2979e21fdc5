use Rattle.std.proofs.Common.{◌≡◌, ◌*◌, ◌^◌, ◌≤◌, take}
use Rattle.std.specs.List.{sum_by}
use Rattle.mv_net.specs.Behind.{literals_at}
use Rattle.mv_gain.proofs.judging.literals_of_each.Given as goal

abbrev pub invariant-loop-n : goal.invariant-loop-n
invariant-loop-n l = record {
  sum : l.literals ≡ sum_by (literals_at l.net.nets) (take l.n-index l.nets);
  few : l.literals ≤ l.n-index * 2 ^ 96;
}
