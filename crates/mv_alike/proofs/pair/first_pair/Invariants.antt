use Rattle.std.proofs.Common.{◌≤◌, length}
use Rattle.mv_alike.proofs.Pairing.{Found}
use Rattle.mv_alike.proofs.pair.first_pair.Given as goal

abbrev pub invariant-loop-at : goal.invariant-loop-at
invariant-loop-at l = record {
  within : l.at ≤ length l.classes;
  found : Found l.classes l.at l.first;
}
