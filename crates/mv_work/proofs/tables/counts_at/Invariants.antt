use Rattle.std.proofs.Common.{◌≡◌, ◌<◌, map, take, slice_index}
use Rattle.std.specs.List.{All}
use Rattle.mv_work.proofs.tables.counts_at.Given as goal

abbrev pub invariant-loop-place : goal.invariant-loop-place
invariant-loop-place l = record {
  positive : All (λ n. 0 < n) l.found.items;
  value : l.found.items ≡ map (slice_index l.counts) (take l.place-index l.places);
}
