use Rattle.std.proofs.Common.{◌≡◌, take, true}
use Rattle.mv_acyclic.specs.Glance.{are_known}
use Rattle.mv_acyclic.proofs.seen.are_known.Given as goal

abbrev pub invariant-loop-net : goal.invariant-loop-net
invariant-loop-net l = are_known l.numbers (take l.net-index l.nets) ≡ true
