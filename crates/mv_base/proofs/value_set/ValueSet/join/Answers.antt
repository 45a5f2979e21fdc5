use Rattle.std.proofs.Common.{refl}
use Rattle.std.specs.Prelude.{bit_or}
use Rattle.mv_base.specs.Set.{join}
use Rattle.mv_base.specs.SetInside.{words}
use Rattle.mv_base.proofs.WordLemmas.{number-zip_words, AreWords-zip_words, join_by_words}
use Rattle.mv_base.proofs.value_set.ValueSet.join.Goals as goal

pub invariant_of-result : goal.invariant_of-result
invariant_of-result c = AreWords-zip_words bit_or join_by_words (words c.self.inside) (words c.other.inside) c.self.invariant c.other.invariant

pub returns : goal.returns
unfolding join
returns c = rw (← c.self.view_is, ← c.other.view_is) (number-zip_words bit_or join_by_words (words c.self.inside) (words c.other.inside) refl c.self.invariant c.other.invariant)
