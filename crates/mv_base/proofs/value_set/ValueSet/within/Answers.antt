use Rattle.mv_base.specs.Set.{meet}
use Rattle.mv_base.proofs.Sets.{within_test}
use Rattle.mv_base.proofs.value_set.ValueSet.within.Goals as goal

pub returns : goal.returns
unfolding meet
returns c = rw (c.eq.ensures, c.meet.ensures) (within_test c.args.self c.args.other)
