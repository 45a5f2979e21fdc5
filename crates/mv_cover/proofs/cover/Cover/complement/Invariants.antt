use Rattle.mv_cover.proofs.Complements.{Left}
use Rattle.mv_cover.proofs.cover.Cover.complement.Given as goal

abbrev pub invariant-loop-line : goal.invariant-loop-line
invariant-loop-line l = Left l.counts l.line-items l.line-index l.cubes.items
