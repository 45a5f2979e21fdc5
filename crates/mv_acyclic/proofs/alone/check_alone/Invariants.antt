use Rattle.std.proofs.Common.{All, take}
use Rattle.mv_acyclic.specs.Sound.{StandsAlone}
use Rattle.mv_acyclic.proofs.alone.check_alone.Given as goal

abbrev pub invariant-loop-reset : goal.invariant-loop-reset
invariant-loop-reset l = All (StandsAlone l.model) (take l.reset-index l.reset-items)
