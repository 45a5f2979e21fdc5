-- The values of the nets before this one are kept.
use Rattle.std.proofs.Common.{◌≡◌, ◌<◌, ℕ, length, map}
use Rattle.std.specs.Prelude.{slice_index}
use Rattle.mv_base.specs.declared.number.Value.{Value}
use Rattle.mv_trace.specs.Answer.{at_of}
use Rattle.mv_tracing.proofs.writing.keep_values.Given as goal

abbrev pub invariant-loop-n : goal.invariant-loop-n
invariant-loop-n l = record {
  long : length l.values ≡ length l.initial.values;
  kept : (m : ℕ) → m < l.n → at_of (map (λ (v : Value). v.0) l.values) m ≡ slice_index l.solver.values m;
}
