-- Which steps of a run some assignment shows, and what is put of them.
use Rattle.std.specs.Prelude.{ℕ, ◌<◌, Option, List, length, Result}
use Rattle.std.specs.List.{flat_map, enumerate_from}
use Rattle.mv_base.specs.Outside.{Written, Appends}
use Rattle.mv_base.specs.declared.outside.Failed.{Failed}
use Rattle.mv_net.specs.declared.parts.FlatNet.{FlatNet}
use Rattle.mv_net.specs.declared.parts.NetParts.{NetParts}
use Rattle.mv_page.specs.Page.{AddsPiece, Paged}
use Rattle.mv_trace.specs.Answer.{step_line, yes_text}
use Rattle.mv_trace.specs.declared.run.RunStep.{RunStep}
use Rattle.mv_trace.specs.Given.{IsShown, Shows, given_values}
use Rattle.mv_tracing.specs.Traced.{AreShownFrom}

-- some assignment shows step k
abbrev pub IsStepShown : NetParts → List RunStep → ℕ → Type 0
IsStepShown net run k = IsShown net (given_values net run k)

-- so it is with each step
pub record AllShown (net : NetParts) (run : List RunStep) : Type 0 where
  pub each : (k : ℕ) → k < length run → IsStepShown net run k

-- step k is the first of which it isn't so
pub record IsFirstUnshown (net : NetParts) (run : List RunStep) (k : ℕ) : Type 0 where
  pub within : k < length run
  pub before : (j : ℕ) → j < k → IsStepShown net run j
  pub unshown : IsStepShown net run k → ⊥

-- the lines of steps from step k on, with these assignments
abbrev pub steps_text : List (Option FlatNet) → ℕ → List (ℕ → ℕ) → List ℕ
steps_text nets k ats =
    flat_map (λ (e : ℕ × (ℕ → ℕ)). step_line nets e.0 e.1) (enumerate_from k ats)

-- the line of step k is put, with an assignment that shows it
pub record PutsStep (net : NetParts) (run : List RunStep) (k : ℕ) (old new : Paged)
    (result : Result (Unit {0}) Failed) : Type 0 where
  pub at : ℕ → ℕ
  pub shows : Shows net (given_values net run k) at
  pub puts : AddsPiece old new (step_line net.nets k at) result

-- the lines of all steps are put, with assignments that show them
pub record PutsSteps (net : NetParts) (run : List RunStep) (old new : Paged)
    (result : Result (Unit {0}) Failed) : Type 0 where
  pub ats : List (ℕ → ℕ)
  pub shown : AreShownFrom net run 0 ats
  pub puts : AddsPiece old new (steps_text net.nets 0 ats) result

-- the answer of an allowed run is put, with such assignments
pub record PutsYes (net : NetParts) (run : List RunStep) (old new : Written)
    (result : Result (Unit {0}) Failed) : Type 0 where
  pub ats : List (ℕ → ℕ)
  pub shown : AreShownFrom net run 0 ats
  pub puts : Appends old new (yes_text net.nets ats) result
