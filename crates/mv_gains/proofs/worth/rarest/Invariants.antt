use Rattle.std.proofs.Common.{IsTrue}
use Rattle.mv_net.specs.Index.{is_held}
use Rattle.mv_gains.specs.Grown.{IsOneOf}
use Rattle.mv_gains.specs.Known.{IsLiteralOn}
use Rattle.mv_gains.proofs.worth.rarest.Given as goal

abbrev pub invariant-loop-literal : goal.invariant-loop-literal
invariant-loop-literal l = record {
  on : IsOneOf IsLiteralOn l.literals l.best.0;
  held : IsTrue (is_held l.net.nets l.best.0);
}
