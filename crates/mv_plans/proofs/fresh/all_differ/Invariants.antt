-- Those that have been looked at are equal to no later one.
use Rattle.std.proofs.Common.{◌≡◌, length}
use Rattle.mv_base.specs.Names.{names_differ}
use Rattle.mv_plans.proofs.fresh.all_differ.Given as goal

abbrev pub invariant-looking : goal.invariant-looking
invariant-looking l = names_differ l.rest ≡ names_differ l.fn.names

abbrev pub decreases-looking : goal.decreases-looking
decreases-looking l = length l.rest
