use Rattle.std.proofs.Common.{◌≡◌, ℕ, List, drop}
use Rattle.mv_flex.specs.Spaces.{value_at}
use Rattle.mv_flex.proofs.space.place_of.Given as goal

abbrev pub invariant-loop-place : goal.invariant-loop-place
invariant-loop-place l = (vs : List ℕ) → value_at (drop l.place l.nets) (drop l.place vs) l.net.0 ≡ value_at l.nets vs l.net.0
