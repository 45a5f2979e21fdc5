use Rattle.std.proofs.Common.{ℕ, ◌≤◌, ◌^◌, All, length, take}
use Rattle.mv_meets.specs.Meets.{at}
use Rattle.mv_meets.proofs.nodes.longest.Given as goal

abbrev pub invariant-loop-place : goal.invariant-loop-place
invariant-loop-place l = record {
  longest : All (λ (p : ℕ). length (at l.cubes p) ≤ l.longest) (take l.place-index l.places);
  short : l.longest ≤ 2 ^ 32;
}
