-- What a run writes at its end: the text of the network that is left, or a summary of the run.
use Rattle.std.specs.Prelude.{ℕ, Bool, false, true, Option, Some, None, List, count_by}
use Rattle.mv_blif_read.specs.declared.network.FileNetwork.{FileNetwork}
use Rattle.mv_entry.specs.declared.journal.Tally.{Tally}
use Rattle.mv_entry.specs.Entries.{Entry}
use Rattle.mv_entry.specs.Tallies.{with_entries}
use Rattle.mv_format.specs.Formats.{Format, left_of}
use Rattle.mv_net.specs.declared.parts.FlatNet.{FlatNet}
use Rattle.mv_net.specs.declared.parts.Kind.{Kind}
use Rattle.mv_net.specs.declared.parts.Kind.TheVariants.{Input, Latch, Table, Reset}
use Rattle.mv_net.specs.declared.parts.NetParts.{NetParts}
use Rattle.mv_net.specs.Nets.{literals_in}
use Rattle.mv_task.specs.Sources.{Source, File, Text}
use Rattle.mv_work.specs.declared.summary.Summary.{Summary as Summing}
use Rattle.mv_work.specs.Summing.{summary_text}
use Rattle.mv_opt.specs.declared.output.Output.{Output}
use Rattle.mv_opt.specs.declared.output.Output.TheVariants.{Network, Summary}

-- a net of this kind isn't that of a reset value
abbrev pub is_named_kind : Kind → Bool
is_named_kind Input = true
is_named_kind Latch = true
is_named_kind Table = true
is_named_kind Reset = false

-- a net that is held, and isn't that of a reset value
abbrev pub is_told : Option FlatNet → Bool
is_told None = false
is_told (Some net) = is_named_kind net.kind

-- nothing was counted yet
abbrev pub no_tally : Tally
no_tally = record { begun = 0; rules = 0; dropped = 0 }

-- the summary of a run, from the literals of the network that was read, what was counted, and the
-- network that is left
unfoldable pub summary_of : ℕ → Tally → NetParts → Summing
summary_of before tally net = record {
  nets = count_by is_told net.nets;
  literals_before = before;
  literals_after = literals_in net.nets;
  commands = tally.begun;
  rules = tally.rules;
  dropped = tally.dropped;
}

-- what is written, from the same; a text of this format
abbrev pub output_text : Format → Output → ℕ → Tally → FileNetwork → List ℕ
output_text format Network before tally f = format.text f
output_text format Summary before tally f = summary_text (summary_of before tally f.net)

-- what is written of a run from a first network by these entries to the network that is left
abbrev pub output_of : Format → Output → FileNetwork → List Entry → NetParts → List ℕ
output_of format output first entries net =
    output_text format output (literals_in first.net.nets) (with_entries no_tally entries)
    (left_of first net)

-- a network that is read from a file is written, and of one that the program made a summary is
abbrev pub output_for : Source → Output
output_for (File name) = Network
output_for (Text text) = Summary
