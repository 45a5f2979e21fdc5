use Rattle.std.proofs.Common.{◌≡◌, true, take}
use Rattle.mv_flex.specs.Truths.{truths_agree}
use Rattle.mv_flex.proofs.asked.truths_agree.Given as goal

abbrev pub invariant-loop-truth : goal.invariant-loop-truth
invariant-loop-truth l = truths_agree l.net.nets (take l.truth-index l.truths) l.nets l.values ≡ true
