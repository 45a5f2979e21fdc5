use Rattle.std.proofs.Common.{◌≡◌, take, true}
use Rattle.mv_acyclic.specs.Glance.{are_known}
use Rattle.mv_acyclic.specs.Numbers.{numbers_in}
use Rattle.mv_acyclic.proofs.numbers.Numbers.known.Given as goal

abbrev pub invariant-loop-net : goal.invariant-loop-net
invariant-loop-net l = (l.numbers ≡ numbers_in l.self (take l.net-index l.nets)) × (are_known l.self (take l.net-index l.nets) ≡ true)
