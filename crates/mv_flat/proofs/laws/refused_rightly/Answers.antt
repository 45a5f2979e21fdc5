-- The law is a lemma.
use Rattle.mv_flat.proofs.Refusals.{refused_excludes}
use Rattle.mv_flat.proofs.laws.refused_rightly.Goals as goal

pub returns : goal.returns
returns c = refused_excludes
