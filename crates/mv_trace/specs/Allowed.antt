-- When a run is allowed.
use Rattle.std.specs.Prelude.{◌≡◌, ℕ, ◌+◌, ◌<◌, Some, List, length, slice_get}
use Rattle.mv_base.specs.Meaning.{Meaning}
use Rattle.mv_trace.specs.declared.run.RunStep.{RunStep}

-- step k of a run is allowed: with its inputs, latch values and outputs some latch inputs and reset
-- values are. The latch inputs are the latch values of the step behind it, where there is one, and
-- at the first step the latches have their reset values
pub record StepAllowed (m : Meaning) (run : List RunStep) (k : ℕ) : Type 0 where
  pub step : RunStep
  pub at : slice_get run k ≡ Some step
  pub next : List ℕ
  pub resets : List ℕ
  pub allowed : m.allows step.inputs step.latches step.outputs next resets
  pub goes_on : (after : RunStep) → slice_get run (k + 1) ≡ Some after → next ≡ after.latches
  pub begins : k ≡ 0 → resets ≡ step.latches

-- a run is allowed: each step is
abbrev pub RunAllowed : Meaning → List RunStep → Type 0
RunAllowed m run = (k : ℕ) → k < length run → StepAllowed m run k
