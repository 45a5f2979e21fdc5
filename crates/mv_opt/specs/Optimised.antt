-- The task of optimising a network by a script: one that it reads from a file, or one that it draws
-- itself.
use Rattle.std.specs.Prelude.{◌≡◌, ℕ, ◌≤◌, true, List, [], ◌∷◌}
use Rattle.mv_blif_read.specs.declared.network.FileNetwork.{FileNetwork}
use Rattle.mv_entry.specs.Entries.{Entry, print, rules_of}
use Rattle.mv_format.specs.Formats.{Format, LeavesPlace, network_stage}
use Rattle.mv_net.specs.declared.parts.NetParts.{NetParts}
use Rattle.mv_net.specs.Nets.{literals_in}
use Rattle.mv_rules.specs.declared.terms.Terms.{Terms}
use Rattle.mv_script_run.specs.Commands.{leaves_no_more}
use Rattle.mv_script_run.specs.Runs.{Runs, RunsTo}
use Rattle.mv_script.specs.Commands.{all_commands}
use Rattle.mv_script.specs.Grammar.{IsScript}
use Rattle.mv_script.specs.Scripts.{Items}
use Rattle.mv_task.specs.Ends.{Work, Task, work_on_both}
use Rattle.mv_task.specs.Sources.{Source, Text}
use Rattle.mv_work.specs.Work.{work_text}
use Rattle.mv_opt.specs.declared.output.Output.{Output}
use Rattle.mv_opt.specs.Outputs.{output_of, output_for}
use Rattle.mv_noted.specs.Noted.{all_notes, IsCertificateOf}
use Rattle.mv_opt.specs.Scripts.{script_stage}

-- the script ran on the first network and led to another one: the notes are its entries and the
-- done line, and a certificate of it; the output is what is to be written of it; and the text of
-- the network that is left replaces whatever text said the first one, as the rules among the
-- entries leave it. Without `determinize` and `encode` it has no more literals than the first one
pub record HasWorked (format : Format) (terms : Terms) (output : Output) (items : Items)
    (first : FileNetwork) (noted written : List ℕ) : Type 0 where
  pub entries : List Entry
  pub net : NetParts
  pub runs : Runs terms items first.net entries net
  pub noted_is : noted ≡ all_notes entries first.net net
  pub certified : IsCertificateOf terms.free entries first.net net
  pub no_more : all_commands leaves_no_more items ≡ true
      → literals_in net.nets ≤ literals_in first.net.nets
  pub written_is : written ≡ output_of format output first entries net
  pub replaces : LeavesPlace format terms.free (rules_of entries) first net

-- the script stopped at some network, and the notes are the entries that came
pub record HasStopped (terms : Terms) (items : Items) (first : NetParts) (noted : List ℕ)
    : Type 0 where
  pub entries : List Entry
  pub net : NetParts
  pub stops : RunsTo terms items first entries net
  pub noted_is : noted ≡ print entries

-- the work of a script of these items on a network
abbrev pub opt_work : Format → Terms → Output → Items → FileNetwork → Work
opt_work format terms output items first = record {
  Does = HasWorked format terms output items first;
  Notes = HasStopped terms items first.net;
  Denies = λ written. ⊥;
  Refuses = λ status line. ⊥;
}

-- the task: first the named script is read, and then the network, of this format; of one that the
-- program made itself a summary is written
abbrev pub opt_task : Format → Terms → Source → List ℕ → Task
opt_task format terms source script = record {
  stages = script_stage script ∷ network_stage format source ∷ [];
  work = work_on_both IsScript format.IsNet (opt_work format terms (output_for source));
}

-- the network of so many tables that is drawn from the seed
abbrev pub drawn : ℕ → ℕ → Source
drawn size seed = Text (work_text size seed)
