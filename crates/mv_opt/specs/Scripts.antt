-- The script that a run takes.
use Rattle.std.specs.Prelude.{◌≡◌, ℕ, List}
use Rattle.mv_script.specs.declared.fault.TextFault.{TextFault}
use Rattle.mv_script.specs.Faults.{IsFirstFault, fault_line}
use Rattle.mv_script.specs.Grammar.{IsScript}
use Rattle.mv_script.specs.Scripts.{Items}
use Rattle.mv_task.specs.Sources.{File}
use Rattle.mv_task.specs.Stages.{Stage}
use Rattle.mv_opt.specs.declared.fault.ScriptRefusal.{ScriptRefusal}

-- the text is a script of some items
pub record SaysScript (text : List ℕ) : Type 0 where
  pub items : Items
  pub says : IsScript text items

-- the text is refused for its first fault, which has this line
pub record TellsScript (text line : List ℕ) : Type 0 where
  pub fault : TextFault
  pub refuses : IsFirstFault text fault
  pub is : line ≡ fault_line fault

-- the stage of the named script
abbrev pub script_stage : List ℕ → Stage
script_stage name =
    record { from = File name; Accepts = SaysScript; Faults = TellsScript; refusal = 3 }

-- the line of a refusal
abbrev pub refusal_line : ScriptRefusal → List ℕ
refusal_line refusal = fault_line refusal.fault
