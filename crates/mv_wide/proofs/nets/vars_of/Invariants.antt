use Rattle.std.proofs.Common.{◌≡◌, length}
use Rattle.mv_wide.specs.Inners.{AreNumbered}
use Rattle.mv_wide.proofs.nets.vars_of.Given as goal

abbrev pub invariant-loop-place : goal.invariant-loop-place
invariant-loop-place l = record {
  long : length l.vars.items ≡ l.count;
  each : AreNumbered l.vars.items l.nets l.place;
}
