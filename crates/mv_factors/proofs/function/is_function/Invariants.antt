use Rattle.std.proofs.Common.{ℕ, ◌≤◌, ◌<◌}
use Rattle.mv_diagram.specs.Diagrams.{Keeps, has}
use Rattle.mv_factors.specs.Functions.{IsApart, IsTotal}
use Rattle.mv_factors.proofs.function.is_function.Given as goal

abbrev pub invariant-loop-value : goal.invariant-loop-value
invariant-loop-value l = record {
  keeps : Keeps l.fn.diagrams l.diagrams;
  total : IsTotal l.fn.diagrams.counts (λ p. has l.fn.diagrams l.set p) l.var;
  apart : (v : ℕ) → 1 ≤ v → v < l.value → IsApart l.fn.diagrams.counts (λ p. has l.fn.diagrams l.set p) l.var v;
}
