-- The work on a certificate: its rules in turn, then the done line, then the text.
use Rattle.std.proofs.Common.{Bool, ◌≡◌, ℕ, List, [], inl, inr, refl, ap}
use Rattle.mv_entry.specs.declared.fault.RuleFault.{RuleFault}
use Rattle.mv_net.specs.declared.parts.NetParts.{NetParts}
use Rattle.mv_net.specs.Nets.{literals_in}
use Rattle.mv_rules.specs.Replaying.{Replays}
use Rattle.mv_rules.proofs.Nodes.{nodes_never}
use Rattle.mv_step.specs.declared.step.Step.{Step}
use Rattle.mv_cert.specs.declared.fault.ReplayFault.{ReplayFault}
use Rattle.mv_cert.specs.declared.fault.ReplayFault.TheVariants.{Rule, Memory}
use Rattle.mv_cert.specs.Replay.{EndsEarly, rules_in}
use Rattle.mv_task.specs.Ending.{done_line}
use Rattle.mv_blif_read.specs.declared.network.FileNetwork.{FileNetwork}
use Rattle.mv_format.specs.Chosen.{format_of, HasSettings}
use Rattle.mv_format.specs.Formats.{Format, left_of}
use Rattle.mv_format.specs.declared.format.FileFormat.{FileFormat}
use Rattle.mv_format.proofs.Lawful.{lawful}
use Rattle.mv_format.proofs.Settings.{settings_left}
use Rattle.mv_rules.proofs.Replayed.{replayed_latches}
use Rattle.mv_task.specs.Ends.{Sinks, WorkEnds, Own, Stopped, is_common}
use Rattle.mv_task.specs.Lines.{memory_line}
use Rattle.mv_task.proofs.Telling.{TellsBehind-nothing}
use Rattle.mv_check.specs.Checked.{HasReplayed, RefusesRule, TellsEnd, check_work}
use Rattle.mv_check.specs.Tellings.{rule_line}

-- the rules applied
pub has_replayed : (format : FileFormat) (free : Bool) (steps : List Step) (first : FileNetwork) (net : NetParts) (before : ℕ) → before ≡ literals_in first.net.nets
    → Replays free (rules_in steps) first.net net
    → HasReplayed (format_of format) free steps first (done_line before (literals_in net.nets)) ((format_of format).text (left_of first net))
has_replayed format free steps first net before count replays = record {
  net = net;
  replays = replays;
  noted_is = ap (λ n. done_line n (literals_in net.nets)) count;
  written_is = refl;
  replaces = (lawful format).replaces free (rules_in steps) first net replays;
}

-- what is said of the latches suffices for the network that they left: it has the same latches
pub settings_kept : (format : FileFormat) (free : Bool) (steps : List Step) (first : FileNetwork) (net : NetParts) → HasSettings format first → Replays free (rules_in steps) first.net net
    → HasSettings format (left_of first net)
settings_kept format free steps first net settings replays = settings_left format first net (replayed_latches free (rules_in steps) first.net net replays) settings

-- a rule that a replay stops at doesn't apply: nodes are never too few
refuses_rule : (free : Bool) (budget : ℕ) (steps : List Step) (first net : NetParts) (status line : ℕ) (fault : RuleFault) → status ≡ 7 → EndsEarly free budget steps first net (Rule line fault) → RefusesRule free steps first status (rule_line line fault)
refuses_rule free budget steps first net status line fault is (inl fails) =
    record { is = is; net = net; at = line; fault = fault; fails = fails; line_is = refl }
refuses_rule free budget steps first net status line fault is (inr short) = absurd (nodes_never budget short.1.step.rule net short.1.lacks)

-- a replay that ended early, and was told so
pub ends_early : (format : Format) (free : Bool) (budget : ℕ) (steps : List Step) (first : FileNetwork) (net : NetParts) (fault : ReplayFault) (old new : Sinks) (status : ℕ) → new.out ≡ old.out → EndsEarly free budget steps first.net net fault → TellsEnd old.notes new.notes fault status
    → WorkEnds (check_work format free steps first) old new status
ends_early format free budget steps first net (Rule line fault) old new status same early told =
    Own (ap is_common told.is) same (rule_line line fault) (refuses_rule free budget steps first.net net status line fault told.is early) told.told
ends_early format free budget steps first net Memory old new status same early told =
    Stopped told.is same [] (inl refl) (TellsBehind-nothing old.notes new.notes memory_line told.told)
