use Rattle.std.proofs.Common.{◌≡◌, ℕ, List, take, length}
use Rattle.mv_flex.specs.Spaces.{value_at, placed}
use Rattle.mv_flex.specs.Plans.{values_of}
use Rattle.mv_flex.proofs.space.places_of.Given as goal

abbrev pub invariant-loop-net : goal.invariant-loop-net
invariant-loop-net l = (vs : List ℕ) → length vs ≡ length l.nets → placed l.places vs ≡ values_of (value_at l.nets vs) (take l.net-index l.some)
