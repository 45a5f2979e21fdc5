use Rattle.std.proofs.Common.{◌≡◌, ◌++◌, drop}
use Rattle.mv_flex.specs.Places.{less_by}
use Rattle.mv_flex.proofs.left.less_by.Given as goal

abbrev pub invariant-loop-place : goal.invariant-loop-place
invariant-loop-place l = l.rest.items ++ less_by l.nets l.line (drop l.place l.places) (drop l.place l.counts) ≡ less_by l.nets l.line l.places l.counts
