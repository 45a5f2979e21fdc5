use Rattle.mv_base.proofs.Sets.{within_test}
use Rattle.mv_cover.proofs.literal.Lit.within.Goals as goal

pub returns-in-Few-Few : goal.returns-in-Few-Few
returns-in-Few-Few c = rw (← c.self.view_is, ← c.other.view_is, c.in-Few-Few.is-0, c.in-Few-Few.is-1) (within_test c.in-Few-Few.a c.in-Few-Few.b)
