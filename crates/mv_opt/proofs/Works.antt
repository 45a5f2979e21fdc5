-- The work on a network: the script, then the done line, then the output.
use Rattle.std.proofs.Common.{◌≡◌, ◌∙◌, ℕ, true, List, ◌++◌, refl, ap}
use Rattle.mv_base.specs.Outside.{Written, Gained, GainedPart}
use Rattle.mv_net.specs.declared.parts.NetParts.{NetParts}
use Rattle.mv_net.specs.Formed.{WellFormed}
use Rattle.mv_net.specs.Nets.{literals_in}
use Rattle.mv_rules_back.specs.Names.{HasWordNames}
use Rattle.mv_rules.specs.declared.terms.Terms.{Terms}
use Rattle.mv_script_run.proofs.NoMore.{runs_no_more}
use Rattle.mv_script_run.proofs.Rules.{runs_replays}
use Rattle.mv_entry.specs.declared.journal.Tally.{Tally}
use Rattle.mv_entry.specs.Entries.{print, rules_of}
use Rattle.mv_entry.specs.Tallies.{Journaled, with_entries}
use Rattle.mv_pass.specs.Taking.{Took, TookPart}
use Rattle.mv_script_run.specs.Runs.{Runs, RunsTo}
use Rattle.mv_script.specs.Commands.{are_lawful}
use Rattle.mv_script.specs.Scripts.{Items}
use Rattle.mv_task.specs.Ending.{done_line}
use Rattle.mv_blif_read.specs.declared.network.FileNetwork.{FileNetwork}
use Rattle.mv_format.specs.Chosen.{format_of, HasSettings}
use Rattle.mv_format.specs.Formats.{left_of}
use Rattle.mv_format.specs.declared.format.FileFormat.{FileFormat}
use Rattle.mv_format.proofs.Lawful.{lawful as format_lawful}
use Rattle.mv_format.proofs.Settings.{settings_left}
use Rattle.mv_rules.proofs.Replayed.{replayed_latches}
use Rattle.mv_opt.specs.declared.output.Output.{Output}
use Rattle.mv_opt.specs.Optimised.{HasWorked, HasStopped}
use Rattle.mv_opt.specs.Outputs.{no_tally, output_text}
use Rattle.mv_opt.specs.Running.{HasRun, Puts}
use Rattle.mv_noted.proofs.Certified.{certified}

-- what a journal took of the script, as its sink gained it
module _ (terms : Terms) (items : Items) (a b : NetParts) (j k : Journaled) where
  pub ran : (tally : Tally) → j.tally ≡ no_tally → tally ≡ k.tally → Took (λ es. Runs terms items a es b) j k → HasRun terms items a b j.written k.written tally
  ran tally none e t = record {
    entries = t.entries;
    runs = t.are;
    gained = t.gained;
    counted = e ∙ (t.counted ∙ ap (λ n. with_entries n t.entries) none);
  }

  pub stopped : Took (λ es. RunsTo terms items a es b) j k → Puts terms items a b (Gained j.written k.written)
  stopped t = record { entries = t.entries; stops = t.are; put = t.gained }

  pub note_cut : TookPart (λ es. RunsTo terms items a es b) j k → Puts terms items a b (GainedPart j.written k.written)
  note_cut t = record { entries = t.entries; stops = t.are; put = t.gained }

pub ruleset noted = (ran, stopped, note_cut)

-- what it put to the notes where it stopped
pub has_stopped : {ArePut : List ℕ → Type 0} (terms : Terms) (items : Items) (first net : NetParts) (p : Puts terms items first net ArePut) → HasStopped terms items first (print p.entries)
has_stopped terms items first net p =
    record { entries = p.entries; net = net; stops = p.stops; noted_is = refl }

-- what is said of the latches suffices for the network that is left: it has the same latches
pub settings_kept : (format : FileFormat) (terms : Terms) (items : Items) (first : FileNetwork) (net : NetParts) (notes mid : Written) (tally : Tally) → HasSettings format first
    → HasRun terms items first.net net notes mid tally → HasSettings format (left_of first net)
settings_kept format terms items first net notes mid tally settings ran =
    settings_left format first net (replayed_latches terms.free (rules_of ran.entries) first.net net (runs_replays terms items first.net net ran.entries ran.runs)) settings

-- the whole script ran
pub has_worked : (format : FileFormat) (terms : Terms) (output : Output) (items : Items) (first : FileNetwork) (net : NetParts) (before : ℕ) (tally : Tally) (notes mid : Written)
    → before ≡ literals_in first.net.nets → (ran : HasRun terms items first.net net notes mid tally) → are_lawful items ≡ true → WellFormed first.net → HasWordNames first.net.nets
    → HasWorked (format_of format) terms output items first (print ran.entries ++ done_line before (literals_in net.nets)) (output_text (format_of format) output before tally (left_of first net))
has_worked format terms output items first net before tally notes mid same ran lawful formed names = record {
  entries = ran.entries;
  net = net;
  runs = ran.runs;
  noted_is = ap (λ n. print ran.entries ++ done_line n (literals_in net.nets)) same;
  certified = certified terms items first.net net ran.entries lawful formed names ran.runs;
  no_more = λ frugal. runs_no_more terms items first.net net ran.entries frugal formed ran.runs;
  written_is = ap (λ n. output_text (format_of format) output n tally (left_of first net)) same
      ∙ ap (λ t. output_text (format_of format) output (literals_in first.net.nets) t (left_of first net)) ran.counted;
  replaces = (format_lawful format).replaces terms.free (rules_of ran.entries) first net (runs_replays terms items first.net net ran.entries ran.runs);
}
