use Rattle.std.proofs.Common.{take}
use Rattle.mv_gain.specs.Pairs.{ForgetsEach}
use Rattle.mv_gain.proofs.kept.KeptComposites.forget_near.Given as goal

abbrev pub invariant-loop-reader : goal.invariant-loop-reader
invariant-loop-reader l = ForgetsEach l.net.nets l.fn.n.0 (take l.reader-index l.reader-items) l.fn.self l.self
