-- The text of what rules left takes the place of the one that was read.
use Rattle.std.proofs.Common.{Bool, List}
use Rattle.mv_base.specs.declared.limits.TheConstants.{MAX_NETWORK_BYTES}
use Rattle.mv_base.proofs.Meanings.{Refines-from_same, Refines-then, SameMeaning-then}
use Rattle.mv_blif_read.specs.declared.network.FileNetwork.{FileNetwork}
use Rattle.mv_entry.specs.declared.rule.Rule.{Rule}
use Rattle.mv_lex.proofs.Facts.{no_fault_is_clean}
use Rattle.mv_net.specs.declared.parts.NetParts.{NetParts}
use Rattle.mv_net.specs.Allowed.{of_net}
use Rattle.mv_rules.specs.Replaying.{Replays}
use Rattle.mv_rules.proofs.Replayed.{replayed_formed, replayed_means, replayed_refines}
use Rattle.mv_text_back.proofs.Whole.{reads-back}
use Rattle.mv_unfold.specs.Sound.{of_sound}
use Rattle.mv_format.specs.BlifMv.{blif_mv}
use Rattle.mv_format.specs.Formats.{LeavesPlace}

-- whatever text of BLIF-MV said the first network
pub replaced : (free : Bool) (rules : List Rule) (first : FileNetwork) (net : NetParts) → Replays free rules first.net net → LeavesPlace blif_mv free rules first net
replaced free rules first net replays text said =
    let of = said.net_of.0 in
    let old = of_sound of.design of.flat.sound in
    let back = reads-back net (replayed_formed free rules first.net net said.formed replays) in
    let new = of_sound back.design back.reads.sound in
    let refines = replayed_refines free rules first.net net said.formed replays in
    record {
      old = of.design;
      reads = record { clean = ((no_fault_is_clean MAX_NETWORK_BYTES text).0 said.lexed).1; design = of.is; sound = of.flat.sound };
      flat = of.flat;
      new = back.design;
      back = back.reads;
      takes = record {
        refines = Refines-then free new (of_net first.net) old (Refines-then free new (of_net net) (of_net first.net) (Refines-from_same free new (of_net net) back.means) refines) (Refines-from_same free (of_net first.net) old of.flat.means);
        same = λ keep. SameMeaning-then new (of_net first.net) old (SameMeaning-then new (of_net net) (of_net first.net) back.means (replayed_means free rules first.net net said.formed keep replays)) of.flat.means;
      };
      besides = tt;
    }
