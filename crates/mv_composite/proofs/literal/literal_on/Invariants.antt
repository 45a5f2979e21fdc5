use Rattle.std.proofs.Common.{◌≡◌, drop}
use Rattle.mv_cover.specs.Meets.{literal_at}
use Rattle.mv_composite.proofs.literal.literal_on.Given as goal

abbrev pub invariant-loop-l : goal.invariant-loop-l
invariant-loop-l l = literal_at (drop l.l-index l.lits) l.net.0 ≡ literal_at l.lits l.net.0
