use Rattle.std.proofs.Common.{◌≡◌, ◌≤◌, ◌*◌, ◌^◌, take}
use Rattle.mv_net.specs.Behind.{literals_gone}
use Rattle.mv_net.proofs.behind.literals_gone.Given as goal

abbrev pub invariant-loop-n : goal.invariant-loop-n
invariant-loop-n l = record { value : l.total ≡ literals_gone l.nets (take l.n-index l.gone); most : l.total ≤ 2 ^ 96 * l.n-index }
