use Rattle.std.proofs.Common.{◌≡◌, drop}
use Rattle.mv_shapes.specs.Rows.{are_full}
use Rattle.mv_shapes.proofs.full.are_full.Given as goal

abbrev pub invariant-loop-place : goal.invariant-loop-place
invariant-loop-place l = are_full (drop l.place l.counts) (drop l.place l.sets) ≡ are_full l.counts l.sets
