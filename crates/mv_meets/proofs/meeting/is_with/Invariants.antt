use Rattle.std.proofs.Common.{ℕ, take}
use Rattle.mv_meets.specs.Meets.{at}
use Rattle.mv_meets.specs.Search.{IsOneOf}
use Rattle.mv_meets.specs.Search.{IsWith}
use Rattle.mv_meets.proofs.meeting.is_with.Given as goal

abbrev pub invariant-loop-place : goal.invariant-loop-place
invariant-loop-place l = IsOneOf (λ (p : ℕ). IsWith l.cubes (at l.cubes l.one) l.one p) (take l.place-index l.places) l.d → ⊥
