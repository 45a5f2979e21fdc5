use Rattle.std.proofs.Common.{◌≡◌, ◌≤◌, ◌*◌, ◌^◌, take}
use Rattle.mv_net.specs.Behind.{literals_given}
use Rattle.mv_net.proofs.behind.literals_given.Given as goal

abbrev pub invariant-loop-new : goal.invariant-loop-new
invariant-loop-new l = record { value : l.total ≡ literals_given (take l.new-index l.set); most : l.total ≤ 2 ^ 96 * l.new-index }
