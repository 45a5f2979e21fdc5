use Rattle.std.proofs.Common.{take}
use Rattle.mv_cover.proofs.ValueClasses.{AlikeIn}
use Rattle.mv_cover.proofs.alike.alike_in.Given as goal

abbrev pub invariant-loop-l : goal.invariant-loop-l
invariant-loop-l l = AlikeIn (take l.l-index l.cube) l.net.0 l.value.0 l.fn.set l.left
