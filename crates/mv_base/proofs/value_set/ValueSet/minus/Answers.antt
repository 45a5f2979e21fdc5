use Rattle.std.proofs.Common.{refl}
use Rattle.mv_base.specs.Set.{minus}
use Rattle.mv_base.specs.SetInside.{words}
use Rattle.mv_base.proofs.WordLemmas.{number-zip_words, AreWords-zip_words, minus_by_words, leave}
use Rattle.mv_base.proofs.value_set.ValueSet.minus.Goals as goal

pub invariant_of-result : goal.invariant_of-result
invariant_of-result c = AreWords-zip_words leave minus_by_words (words c.self.inside) (words c.other.inside) c.self.invariant c.other.invariant

pub returns : goal.returns
unfolding minus
returns c = rw (← c.self.view_is, ← c.other.view_is) (number-zip_words leave minus_by_words (words c.self.inside) (words c.other.inside) refl c.self.invariant c.other.invariant)
