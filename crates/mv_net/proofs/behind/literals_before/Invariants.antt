use Rattle.std.proofs.Common.{◌≡◌, ◌≤◌, ◌*◌, ◌^◌, take}
use Rattle.mv_net.specs.Behind.{literals_before}
use Rattle.mv_net.proofs.behind.literals_before.Given as goal

abbrev pub invariant-loop-new : goal.invariant-loop-new
invariant-loop-new l = record { value : l.total ≡ literals_before l.nets (take l.new-index l.set); most : l.total ≤ 2 ^ 96 * l.new-index }
