-- The task of telling whether a run is allowed.
use Rattle.std.specs.Prelude.{◌≡◌, ℕ, ◌+◌, ◌<◌, Some, List, [], ◌∷◌, length}
use Rattle.mv_fault.specs.Tells.{first}
use Rattle.mv_format.specs.Formats.{Format, network_stage}
use Rattle.mv_lex.specs.declared.lines.LexLine.{LexLine}
use Rattle.mv_net.specs.Allowed.{of_net}
use Rattle.mv_net.specs.declared.parts.NetParts.{NetParts}
use Rattle.mv_task.specs.Ends.{Work, Task, work_on_both}
use Rattle.mv_task.specs.Sources.{File}
use Rattle.mv_trace.specs.Allowed.{RunAllowed, StepAllowed}
use Rattle.mv_trace.specs.Answer.{yes_text, no_text}
use Rattle.mv_trace.specs.declared.fault.TraceFault.{TraceFault}
use Rattle.mv_trace.specs.declared.run.RunStep.{RunStep}
use Rattle.mv_trace.specs.Given.{Shows, given_values}
use Rattle.mv_trace.specs.Runs.{run_faults, run_said}
use Rattle.mv_trace.specs.Told.{fault_line}
use Rattle.mv_tracing.specs.RunFiles.{SaysLines, run_stage}

-- one assignment for each step from step k on, which shows it
abbrev pub AreShownFrom : NetParts → List RunStep → ℕ → List (ℕ → ℕ) → Type 0
AreShownFrom net run k [] = k ≡ length run
AreShownFrom net run k (at ∷ ats) =
    Shows net (given_values net run k) at × AreShownFrom net run (k + 1) ats

-- the run that the lines say is allowed, and is told with assignments that show its steps; the
-- notes gain nothing
pub record IsYes (net : NetParts) (lines : List LexLine) (noted written : List ℕ) : Type 0 where
  pub faultless : run_faults net lines ≡ []
  pub allowed : RunAllowed (of_net net) (run_said net lines)
  pub ats : List (ℕ → ℕ)
  pub shown : AreShownFrom net (run_said net lines) 0 ats
  pub noted_is : noted ≡ []
  pub written_is : written ≡ yes_text net.nets ats

-- step k of a run is the first that isn't allowed
pub record IsFirstRefused (net : NetParts) (run : List RunStep) (k : ℕ) : Type 0 where
  pub within : k < length run
  pub before : (j : ℕ) → j < k → StepAllowed (of_net net) run j
  pub refused : StepAllowed (of_net net) run k → ⊥

-- the run that the lines say isn't allowed, and its first step that isn't is told
pub record IsNo (net : NetParts) (lines : List LexLine) (written : List ℕ) : Type 0 where
  pub faultless : run_faults net lines ≡ []
  pub step : ℕ
  pub first : IsFirstRefused net (run_said net lines) step
  pub written_is : written ≡ no_text step

-- the lines say no run of the network, for their first fault, which has this line
pub record RefusesRun (net : NetParts) (lines : List LexLine) (status : ℕ) (line : List ℕ)
    : Type 0 where
  pub is : status ≡ 11
  pub fault : TraceFault
  pub first_is : first (run_faults net lines) ≡ Some fault
  pub line_is : line ≡ fault_line fault

-- the work on a network and the lines of a run file
abbrev pub trace_work : NetParts → List LexLine → Work
trace_work net lines = record {
  Does = IsYes net lines;
  Notes = λ noted. ⊥;
  Denies = IsNo net lines;
  Refuses = RefusesRun net lines;
}

-- the task: first the named network, of this format, is read, and then the named run file
abbrev pub trace_task : Format → List ℕ → List ℕ → Task
trace_task format network run = record {
  stages = network_stage format (File network) ∷ run_stage run ∷ [];
  work = work_on_both format.IsNet SaysLines (λ f. trace_work f.net);
}
