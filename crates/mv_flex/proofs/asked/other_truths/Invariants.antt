use Rattle.std.proofs.Common.{take}
use Rattle.mv_flex.specs.Truths.{AreTruths}
use Rattle.mv_flex.proofs.asked.other_truths.Given as goal

abbrev pub invariant-loop-other : goal.invariant-loop-other
invariant-loop-other l = AreTruths l.net.nets l.nets (take l.other-index l.others) l.truths
