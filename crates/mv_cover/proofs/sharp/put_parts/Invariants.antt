use Rattle.mv_cover.proofs.Sharps.{Cut}
use Rattle.mv_cover.proofs.sharp.put_parts.Given as goal

abbrev pub invariant-loop-l : goal.invariant-loop-l
invariant-loop-l l = Cut l.counts l.cube l.other l.fn.list.items l.list.items l.lits.items l.l-index
