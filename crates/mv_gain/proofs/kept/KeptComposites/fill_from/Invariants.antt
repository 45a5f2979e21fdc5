use Rattle.std.proofs.Common.{◌≡◌, take}
use Rattle.mv_gain.specs.Judging.{IsMade}
use Rattle.mv_gain.specs.Kept.{AreRight}
use Rattle.mv_gain.specs.Pairs.{AreKept}
use Rattle.mv_gain.proofs.kept.KeptComposites.fill_from.Given as goal

abbrev pub invariant-loop-reader : goal.invariant-loop-reader
invariant-loop-reader l = record {
  right : AreRight l.net.nets l.self;
  made : IsMade l.net.nets l.n.0 l.inner;
  kept : l.fn.start ≡ 0 → AreKept l.self l.n.0 (take l.reader-index l.reader-items);
}
