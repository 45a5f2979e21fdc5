use Rattle.std.proofs.Common.{◌≡◌, ◌≤◌, ◌*◌, ◌^◌, take}
use Rattle.mv_net.specs.Behind.{literals_added}
use Rattle.mv_net.proofs.behind.literals_added.Given as goal

abbrev pub invariant-loop-new : goal.invariant-loop-new
invariant-loop-new l = record { value : l.total ≡ literals_added (take l.new-index l.add); most : l.total ≤ 2 ^ 96 * l.new-index }
