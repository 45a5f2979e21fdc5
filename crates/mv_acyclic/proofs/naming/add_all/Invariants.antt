use Rattle.std.proofs.Common.{◌≡◌, ◌++◌, take}
use Rattle.mv_acyclic.proofs.naming.add_all.Given as goal

abbrev pub invariant-loop-naming : goal.invariant-loop-naming
invariant-loop-naming l = l.all.items ≡ l.fn.all.items ++ take l.naming-index l.namings
