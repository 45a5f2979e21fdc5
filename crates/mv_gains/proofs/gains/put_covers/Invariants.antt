use Rattle.std.proofs.Common.{◌≡◌, length, drop}
use Rattle.mv_gains.specs.Gains.{AreTablesBut, covers_at}
use Rattle.mv_gains.specs.Renewing.{IsPut}
use Rattle.mv_gains.proofs.gains.put_covers.Given as goal

abbrev pub invariant-loop-n : goal.invariant-loop-n
invariant-loop-n l = record {
  put : IsPut l.fn.kept l.kept;
  long : length l.kept.covers.items ≡ length l.net.nets;
  others : AreTablesBut covers_at (drop l.n-index l.waiting) l.net.nets l.kept.covers.items;
}
