use Rattle.std.proofs.Common.{◌≡◌, ◌≤◌, ◌<◌, ℕ, true}
use Rattle.mv_diagram.specs.Diagrams.{point_of}
use Rattle.mv_factors.specs.Families.{set_at}
use Rattle.mv_witness.proofs.commons.is_in_all.Given as goal

abbrev pub invariant-loop-place : goal.invariant-loop-place
invariant-loop-place l = (k : ℕ) → l.from ≤ k → k < l.place → set_at l.factors k (point_of l.point) ≡ true
