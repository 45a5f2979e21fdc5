use Rattle.std.proofs.Common.{List, Option}
use Rattle.mv_net.specs.declared.parts.FlatNet.{FlatNet}
use Rattle.mv_net.specs.Fresh.{AreMade}
use Rattle.mv_net.specs.Names.{AreNames}
use Rattle.mv_net.proofs.made.raised.Given as goal

abbrev pub invariant-loop-number : goal.invariant-loop-number
invariant-loop-number l = (nets : List (Option FlatNet)) → AreNames nets l.names → AreMade nets l.made → AreMade nets l.number
