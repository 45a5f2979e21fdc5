use Rattle.std.proofs.Common.{◌≡◌, length}
use Rattle.mv_gains.specs.Renewing.{AreGains, AreSameTables}
use Rattle.mv_gains.proofs.gains.grown.Given as goal

abbrev pub invariant-loop-number : goal.invariant-loop-number
invariant-loop-number l = record {
  gains : AreGains l.kept;
  long : length l.kept.covers.items ≡ l._number;
  same : AreSameTables l.initial.kept.covers.items l.kept.covers.items;
}
