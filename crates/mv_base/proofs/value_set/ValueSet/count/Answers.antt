use Rattle.std.proofs.Common.{arith}
use Rattle.mv_base.specs.SetInside.{words}
use Rattle.mv_base.proofs.WordLemmas.{ones-words}
use Rattle.mv_base.proofs.value_set.ValueSet.count.Goals as goal

pub returns-clause-value : goal.returns-clause-value
returns-clause-value c =
    let ones = ones-words (words c.self.inside) c.self.invariant in
    rw (← c.self.view_is) (omega (arith, ones))
