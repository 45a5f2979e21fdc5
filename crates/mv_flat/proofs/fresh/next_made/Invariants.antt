use Rattle.std.proofs.Common.{◌≡◌, ℕ, ◌<◌, true}
use Rattle.mv_base.specs.Names.{among}
use Rattle.mv_flat.specs.Numbers.{made_name}
use Rattle.mv_flat.proofs.fresh.next_made.Given as goal

abbrev pub invariant-loop-number : goal.invariant-loop-number
invariant-loop-number l = (k : ℕ) → l.last < k → k < l.number → among (made_name k) l.names ≡ true
