use Rattle.std.proofs.Common.{◌≡◌, ◌+◌, ◌*◌, drop}
use Rattle.mv_flex.specs.Spaces.{placed, ways, code}
use Rattle.mv_flex.proofs.space.number.Given as goal

abbrev pub invariant-loop-place : goal.invariant-loop-place
invariant-loop-place l = record {
  sum : l.number + l.weight * code (drop l.place l.counts) (drop l.place (placed l.places l.values)) ≡ code l.counts (placed l.places l.values);
  fit : l.weight * ways (drop l.place l.counts) ≡ ways l.counts;
}
