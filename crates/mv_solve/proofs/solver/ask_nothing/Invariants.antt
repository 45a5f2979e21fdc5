use Rattle.std.proofs.Common.{◌≡◌, ◌<◌, ℕ, length}
use Rattle.mv_solve.specs.declared.asked.Asked.TheVariants.{Anything}
use Rattle.mv_solve.specs.Asked.{asked_of}
use Rattle.mv_solve.proofs.solver.ask_nothing.Given as goal

abbrev pub invariant-loop-at : goal.invariant-loop-at
invariant-loop-at l = record {
  long : length l.asked ≡ length l.initial.asked;
  none : (n : ℕ) → n < l.at → asked_of l.asked n ≡ Anything;
}
