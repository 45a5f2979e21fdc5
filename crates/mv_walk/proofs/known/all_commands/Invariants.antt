use Rattle.mv_walk.proofs.Listed.{AreLists}
use Rattle.mv_walk.proofs.known.all_commands.Given as goal

abbrev pub invariant-loop-round : goal.invariant-loop-round
invariant-loop-round l = AreLists l.models l.round-index l.all
