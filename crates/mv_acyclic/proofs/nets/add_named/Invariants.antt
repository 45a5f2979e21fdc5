use Rattle.std.proofs.Common.{◌≡◌, drop}
use Rattle.mv_acyclic.specs.Driving.{with_named}
use Rattle.mv_acyclic.proofs.nets.add_named.Given as goal

abbrev pub invariant-loop-naming : goal.invariant-loop-naming
invariant-loop-naming l = with_named l.nets (drop l.naming-index l.namings) ≡ with_named l.fn.nets l.namings
