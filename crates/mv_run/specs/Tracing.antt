-- What a run of the program says of a recorded run.
use Rattle.std.specs.Prelude.{◌≡◌, ◌⊎◌, ℕ, ◌<◌, ◌≤◌, Option, Some, List, [], length}
use Rattle.mv_base.specs.Meaning.{Meaning}
use Rattle.mv_base.specs.Outside.{Stored, Gained}
use Rattle.mv_blif_read.specs.declared.network.FileNetwork.{FileNetwork}
use Rattle.mv_command_line.specs.CommandLine.{Asked, Names, trace}
use Rattle.mv_design.specs.declared.design.Design.{Design}
use Rattle.mv_flat.specs.Flat.{IsFlat}
use Rattle.mv_format.specs.BlifMv.{blif_mv}
use Rattle.mv_format.specs.Formats.{network_stage}
use Rattle.mv_lex.specs.Lines.{lines_of}
use Rattle.mv_net.specs.declared.parts.NetParts.{NetParts}
use Rattle.mv_task.specs.Ends.{Outside}
use Rattle.mv_task.specs.Sources.{File, IsContent, IsReadWhole}
use Rattle.mv_task.specs.Stages.{IsRefused, Takes}
use Rattle.mv_text_back.specs.Back.{ReadsAs}
use Rattle.mv_trace.specs.Allowed.{RunAllowed, StepAllowed}
use Rattle.mv_trace.specs.Answer.{yes_text, no_text}
use Rattle.mv_trace.specs.declared.run.RunStep.{RunStep}
use Rattle.mv_trace.specs.Runs.{run_faults, run_said}
use Rattle.mv_tracing.specs.RunFiles.{run_stage}
use Rattle.mv_tracing.specs.Traced.{AreShownFrom}
use Rattle.mv_unfold.specs.Sound.{of_sound}

-- the named network file reads as a sound design, of which this is the network, and the named run
-- file, which was read to its end, says a run of it
pub record IsRecorded (names : Names) (old new : Stored) : Type 0 where
  pub text : List ℕ
  pub is : IsContent (File names.net) old text
  pub design : Design
  pub reads : ReadsAs text design
  pub net : NetParts
  pub flat : IsFlat net design
  pub content : List ℕ
  pub read : IsReadWhole (File names.other) old new content
  pub faultless : run_faults net (lines_of content) ≡ []

-- what the design means, and the run
abbrev pub recorded_meaning : {names : Names} → {old new : Stored} → IsRecorded names old new
    → Meaning
recorded_meaning r = of_sound r.design r.reads.sound

abbrev pub recorded_run : {names : Names} → {old new : Stored} → IsRecorded names old new
    → List RunStep
recorded_run r = run_said r.net (lines_of r.content)

-- the design allows the run, and the output gained it with assignments to all nets of the network
-- that show its steps; the notes gained nothing
pub record IsAllowedRun (names : Names) (old new : Outside) : Type 0 where
  pub recorded : IsRecorded names old.files new.files
  pub allowed : RunAllowed (recorded_meaning recorded) (recorded_run recorded)
  pub ats : List (ℕ → ℕ)
  pub shown : AreShownFrom recorded.net (recorded_run recorded) 0 ats
  pub told : Gained old.sinks.out new.sinks.out (yes_text recorded.net.nets ats)
  pub silent : Gained old.sinks.notes new.sinks.notes []

-- the design allows the steps before one, but not this one, and the output gained its number; the
-- notes gained nothing
pub record IsDeniedRun (names : Names) (old new : Outside) : Type 0 where
  pub recorded : IsRecorded names old.files new.files
  pub step : ℕ
  pub within : step < length (recorded_run recorded)
  pub before : (k : ℕ) → k < step
      → StepAllowed (recorded_meaning recorded) (recorded_run recorded) k
  pub denied : StepAllowed (recorded_meaning recorded) (recorded_run recorded) step → ⊥
  pub told : Gained old.sinks.out new.sinks.out (no_text step)
  pub silent : new.sinks.notes ≡ old.sinks.notes

-- at status 0 the run is allowed, and at 9 it isn't
pub record AnswersNames (names : Names) (status : ℕ) (old new : Outside) : Type 0 where
  pub yes : status ≡ 0 → IsAllowedRun names old new
  pub no : status ≡ 9 → IsDeniedRun names old new

-- so it is where a run is asked for
abbrev pub AnswersRun : Option Asked → ℕ → Outside → Outside → Type 0
AnswersRun (Some (trace names)) status old new = AnswersNames names status old new
AnswersRun asked status old new = Unit {0}

-- the statuses that there are: 9 and 11 only where a run is asked for
abbrev pub IsStatusOf : Option Asked → ℕ → Type 0
IsStatusOf (Some (trace names)) k = (k ≤ 7) ⊎ (k ≡ 9) ⊎ (k ≡ 11)
IsStatusOf asked k = k ≤ 7

-- behind a network file that is accepted, the lines of the run file say no run of its network
pub record HoldsFaultyRun (names : Names) (files : Stored) (text : List ℕ) : Type 0 where
  pub file : FileNetwork
  pub said : blif_mv.IsNet text file
  pub content : List ℕ
  pub run : Takes (run_stage names.other) files content
  pub faulty : run_faults file.net (lines_of content) ≡ [] → ⊥

-- the files hold a network file that is accepted, and the run file is refused: its bytes, or its
-- lines
pub record HoldsRefusedRun (names : Names) (files : Stored) : Type 0 where
  pub text : List ℕ
  pub network : Takes (network_stage blif_mv (File names.net)) files text
  pub refused : IsRefused (run_stage names.other) files ⊎ HoldsFaultyRun names files text
