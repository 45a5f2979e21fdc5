use Rattle.std.proofs.Common.{take}
use Rattle.mv_gain.specs.Pairs.{IsPart, LacksReader}
use Rattle.mv_gain.proofs.kept.KeptComposites.forget_fanins.Given as goal

abbrev pub invariant-loop-n : goal.invariant-loop-n
invariant-loop-n l = record { part : IsPart l.fn.self l.self; gone : LacksReader l.self (take l.n-index l.nets) l.reader.0 }
