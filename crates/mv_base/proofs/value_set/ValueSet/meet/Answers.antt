use Rattle.std.proofs.Common.{refl}
use Rattle.std.specs.Prelude.{bit_and}
use Rattle.mv_base.specs.Set.{meet}
use Rattle.mv_base.specs.SetInside.{words}
use Rattle.mv_base.proofs.WordLemmas.{number-zip_words, AreWords-zip_words, meet_by_words}
use Rattle.mv_base.proofs.value_set.ValueSet.meet.Goals as goal

pub invariant_of-result : goal.invariant_of-result
invariant_of-result c = AreWords-zip_words bit_and meet_by_words (words c.self.inside) (words c.other.inside) c.self.invariant c.other.invariant

pub returns : goal.returns
unfolding meet
returns c = rw (← c.self.view_is, ← c.other.view_is) (number-zip_words bit_and meet_by_words (words c.self.inside) (words c.other.inside) refl c.self.invariant c.other.invariant)
