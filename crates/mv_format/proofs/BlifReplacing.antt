-- The text as BLIF of what rules left says the same of each latch as the one that was read, and means the same.
use Rattle.std.proofs.Common.{◌≡◌, ◌∙◌, Bool, List, ℕ}
use Rattle.mv_base.specs.Meaning.{Meaning, SameMeaning}
use Rattle.mv_base.specs.declared.limits.TheConstants.{MAX_NETWORK_BYTES}
use Rattle.mv_base.proofs.Meanings.{Refines-from_same, SameMeaning-then}
use Rattle.mv_blif_back.proofs.Whole.{reads-back}
use Rattle.mv_blif_back.specs.Back.{ReadsAs}
use Rattle.mv_blif_back.specs.Said.{IsBinary, AreSaid, inits}
use Rattle.mv_blif_read.specs.Reads.{IsBlifNetOf}
use Rattle.mv_blif_read.specs.declared.network.FileNetwork.{FileNetwork}
use Rattle.mv_blif_read.proofs.Binary.{networks_binary, tables_one}
use Rattle.mv_blif_read.proofs.FirstValues.{first_values}
use Rattle.mv_blif_read.proofs.Said.{latches_said}
use Rattle.mv_blif_rules.proofs.Replayed.{replayed_binary, replayed_said, replayed_written}
use Rattle.mv_chosen.specs.Written.{written_nets}
use Rattle.mv_entry.specs.declared.rule.Rule.{Rule}
use Rattle.mv_lex.specs.Lines.{lines_of}
use Rattle.mv_lex.proofs.Facts.{no_fault_is_clean}
use Rattle.mv_net.specs.declared.parts.NetParts.{NetParts}
use Rattle.mv_net.specs.Allowed.{of_net}
use Rattle.mv_net.specs.Changes.{with_nets}
use Rattle.mv_parse_laws.proofs.FileLines.{lines-ascend}
use Rattle.mv_rules.specs.Replaying.{Replays}
use Rattle.mv_rules.proofs.Replayed.{replayed_formed}
use Rattle.mv_unfold.specs.Sound.{of_sound}
use Rattle.mv_format.specs.Blif.{blif}
use Rattle.mv_format.specs.Formats.{LeavesPlace}

-- whatever text of BLIF said the first network
pub blif_replaced : (free : Bool) (rules : List Rule) (first : FileNetwork) (net : NetParts) → Replays free rules first.net net → LeavesPlace blif free rules first net
blif_replaced free rules first net replays text said =
    let of = said.net_of in
    let lines = lines_of text in
    let up = lines-ascend text in
    let formed = replayed_formed free rules first.net net said.formed replays in
    let settings = latches_said lines first up of in
    let binary = networks_binary lines first up of in
    let back = reads-back net first.latches formed (replayed_binary free rules first.net net said.formed binary replays)
    (replayed_said free rules first.net net first.latches said.formed settings replays) in
    let old = of_sound of.design.design of.flat.sound in
    let new = of_sound back.design.design back.reads.sound in
    let written = of_net (with_nets net (written_nets net (inits first.latches))) in
    let ruled : SameMeaning written (of_net first.net) =
    replayed_written free rules first.net net first.latches said.formed binary (first_values lines first up of) (λ n c e. tables_one lines first up of n c e) replays in
    let same : SameMeaning new old = SameMeaning-then new (of_net first.net) old (SameMeaning-then new written (of_net first.net) back.means ruled) of.flat.means in
    let read : ReadsAs text of.design = record { clean = ((no_fault_is_clean MAX_NETWORK_BYTES text).0 said.lexed).1; design = of.is; sound = of.flat.sound } in
    record {
      old = of.design.design;
      reads = record { latches = of.design.latches; reads = read };
      flat = of.flat;
      new = back.design.design;
      back = record { latches = back.design.latches; reads = back.reads };
      takes = record { refines = Refines-from_same free new old same; same = λ keep. same };
      besides = record { old = of.design; reads = read; new = back.design; back = back.reads; latches = back.latches ∙ of.said; means = same };
    }
