-- The task of checking a certificate.
use Rattle.std.specs.Prelude.{◌≡◌, ℕ, Bool, List, [], ◌∷◌}
use Rattle.mv_base.specs.Outside.{Written}
use Rattle.mv_blif_read.specs.declared.network.FileNetwork.{FileNetwork}
use Rattle.mv_entry.specs.declared.fault.RuleFault.{RuleFault}
use Rattle.mv_format.specs.Formats.{Format, LeavesPlace, left_of, network_stage}
use Rattle.mv_net.specs.declared.parts.NetParts.{NetParts}
use Rattle.mv_net.specs.Nets.{literals_in}
use Rattle.mv_rules.specs.Replaying.{Replays}
use Rattle.mv_step.specs.declared.step.Step.{Step}
use Rattle.mv_cert.specs.Replay.{FailsAt, rules_in}
use Rattle.mv_cert.specs.declared.fault.ReplayFault.{ReplayFault}
use Rattle.mv_cert.specs.declared.fault.ReplayFault.TheVariants.{Rule, Memory}
use Rattle.mv_task.specs.Ending.{done_line}
use Rattle.mv_task.specs.Ends.{Work, Task, work_on_both}
use Rattle.mv_task.specs.Lines.{TellsLine, memory_line}
use Rattle.mv_task.specs.Sources.{File}
use Rattle.mv_check.specs.Certificates.{SaysSteps, certificate_stage}
use Rattle.mv_check.specs.Tellings.{rule_line}

-- the rules of the steps, of which nothing else is assumed, lead from the first network to another
-- one: the notes are the done line alone; the output is the text of the network that is left, and
-- replaces whatever text said the first one, as the rules leave it
pub record HasReplayed (format : Format) (free : Bool) (steps : List Step) (first : FileNetwork)
    (noted written : List ℕ) : Type 0 where
  pub net : NetParts
  pub replays : Replays free (rules_in steps) first.net net
  pub noted_is : noted ≡ done_line (literals_in first.net.nets) (literals_in net.nets)
  pub written_is : written ≡ format.text (left_of first net)
  pub replaces : LeavesPlace format free (rules_in steps) first net

-- the rule of a step, at some line of the certificate, doesn't apply where those before it have led
-- from the first network; the line that is told says where and why
pub record RefusesRule (free : Bool) (steps : List Step) (first : NetParts) (status : ℕ)
    (line : List ℕ) : Type 0 where
  pub is : status ≡ 7
  pub net : NetParts
  pub at : ℕ
  pub fault : RuleFault
  pub fails : FailsAt free steps first net at fault
  pub line_is : line ≡ rule_line at fault

-- the status and the line of a replay that ended early
abbrev pub end_status : ReplayFault → ℕ
end_status (Rule line fault) = 7
end_status Memory = 6

abbrev pub end_line : ReplayFault → List ℕ
end_line (Rule line fault) = rule_line line fault
end_line Memory = memory_line

-- these are told and answered
pub record TellsEnd (old new : Written) (fault : ReplayFault) (status : ℕ) : Type 0 where
  pub is : status ≡ end_status fault
  pub told : TellsLine old new (end_line fault)

-- the work of these steps on a network: nothing is noted before it is done
abbrev pub check_work : Format → Bool → List Step → FileNetwork → Work
check_work format free steps first = record {
  Does = HasReplayed format free steps first;
  Notes = λ noted. ⊥;
  Denies = λ written. ⊥;
  Refuses = RefusesRule free steps first.net;
}

-- the task: first the named certificate is read, and then the named network, of this format
abbrev pub check_task : Format → Bool → List ℕ → List ℕ → Task
check_task format free network certificate = record {
  stages = certificate_stage certificate ∷ network_stage format (File network) ∷ [];
  work = work_on_both SaysSteps format.IsNet (check_work format free);
}
