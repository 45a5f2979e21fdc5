-- What is asked so far: the first values.
use Rattle.std.proofs.Common.{◌≡◌, ◌↔◌, ℕ}
use Rattle.std.specs.Prelude.{slice_index}
use Rattle.mv_solve.specs.Asked.{HasAsked}
use Rattle.mv_verify.specs.Sides.{AreAt}
use Rattle.mv_verify.proofs.side.ask.Given as goal

abbrev pub invariant-loop-place : goal.invariant-loop-place
invariant-loop-place l = record {
  order : l.solver.order ≡ l.fn.solver.order;
  asked : (at : ℕ → ℕ) → HasAsked l.solver.order l.solver.asked at ↔ AreAt l.ports l.place at (slice_index l.values);
}
