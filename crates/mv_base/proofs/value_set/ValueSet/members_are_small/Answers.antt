use Rattle.mv_base.specs.SetInside.{words}
use Rattle.mv_base.proofs.Sets.{IsSet_from_bound}
use Rattle.mv_base.proofs.WordLemmas.{number-lt}
use Rattle.mv_base.proofs.value_set.ValueSet.members_are_small.Goals as goal

pub returns : goal.returns
returns c = rw (← c.self.view_is) (IsSet_from_bound _ (number-lt (words c.self.inside) c.self.invariant))
