use Rattle.std.proofs.Common.{length}
use Rattle.mv_gain.specs.Judging.{IsMade}
use Rattle.mv_gain.specs.Kept.{AreRight}
use Rattle.mv_gain.proofs.kept.KeptComposites.fill_marked.Given as goal

abbrev pub invariant-all : goal.invariant-all
invariant-all l = record { right : AreRight l.net.nets l.self; made : IsMade l.net.nets l.n.0 l.inner }

abbrev pub decreases-all : goal.decreases-all
decreases-all l = length l.marked.keys
