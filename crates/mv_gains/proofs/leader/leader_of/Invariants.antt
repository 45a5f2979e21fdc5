use Rattle.std.proofs.Common.{◌≡◌, None, map, take}
use Rattle.std.specs.List.{fold}
use Rattle.mv_gains.specs.Leading.{leader, offer}
use Rattle.mv_gains.proofs.leader.leader_of.Given as goal

abbrev pub invariant-loop-candidate : goal.invariant-loop-candidate
invariant-loop-candidate l = l.best ≡ fold leader None (map offer (take l.candidate-index l.candidates))
