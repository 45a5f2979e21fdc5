-- The law is a lemma.
use Rattle.mv_fill.proofs.Strict.{stays}
use Rattle.mv_fill.proofs.laws.strict_laws.Goals as goal

pub returns : goal.returns
returns c = λ old new steps fills. stays fills.end old steps new fills.visits
