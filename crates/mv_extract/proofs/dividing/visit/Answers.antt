-- The net d itself is let be.
use Rattle.std.proofs.Common.{refl}
use Rattle.mv_pass.specs.Courses.{Perhaps}
use Rattle.mv_pass.proofs.Stepped.{idle}
use Rattle.mv_extract.specs.Steps.{DividesNet, Own}
use Rattle.mv_extract.proofs.dividing.visit.Goals as goal

pub returns-then-n-d-clause-passes : goal.returns-then-n-d-clause-passes
returns-then-n-d-clause-passes g c =
    let V = DividesNet c.args.terms.free c.args.divisor.now c.args.d c.args.n.0 in
    idle c.args.terms.free V (Perhaps V) c.args.net.now _ (Own c.if-n-d.true (refl, refl))
