use Rattle.std.proofs.Common.{◌≡◌, drop}
use Rattle.mv_flex.specs.Spaces.{value_at}
use Rattle.mv_flex.proofs.space.value_at.Given as goal

abbrev pub invariant-loop-place : goal.invariant-loop-place
invariant-loop-place l = value_at (drop l.place l.nets) (drop l.place l.values) l.net.0 ≡ value_at l.nets l.values l.net.0
