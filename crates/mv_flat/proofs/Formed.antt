-- The network of a sound model is well formed.
use Rattle.std.proofs.Common.{refl, ◌∙◌, ap}
use Rattle.mv_base.specs.Names.{is_model_name}
use Rattle.mv_design.specs.declared.design.FileModel.{FileModel}
use Rattle.mv_net.specs.declared.parts.NetParts.{NetParts}
use Rattle.mv_net.specs.declared.parts.Kind.TheVariants.{Input, Latch}
use Rattle.mv_net.specs.Formed.{latch_outputs, WellFormed}
use Rattle.mv_resets.specs.NetModels.{HasSoundNets}
use Rattle.mv_resets.proofs.SoundNets.{latches_differ}
use Rattle.mv_flat.proofs.Places.{IsModelNet}
use Rattle.mv_flat.proofs.Naming.{sides_are}
use Rattle.mv_flat.proofs.FormedNames.{nets_differ}
use Rattle.mv_flat.proofs.FormedNets.{nets_formed}
use Rattle.mv_flat.proofs.FormedLists.{open_formed, outputs_formed, outputs_once}
use Rattle.mv_flat.proofs.FormedLatches.{latches_formed, resets_formed}
use Rattle.mv_flat.proofs.FormedRanks.{acyclic_nets}
use Rattle.mv_flat.proofs.FormedAlone.{resets_alone}

pub net_formed : (m : FileModel) (net : NetParts) → IsModelNet m net → HasSoundNets m → WellFormed net
net_formed m net is sound = record {
  root = ap is_model_name is.built.root ∙ is.proper.name;
  nets = nets_formed m net is;
  names = nets_differ m net is;
  inputs = open_formed m net is Input refl is.proper.inputs_differ net.inputs is.built.inputs;
  outputs = outputs_formed m net is;
  outputs_once = outputs_once m net is;
  latches = latches_formed m net is;
  states =
      open_formed m net is Latch refl (latches_differ m sound.once) (latch_outputs net.latches)
      (sides_are m net is (λ l. l.output) (λ l. l.output) (λ l. refl));
  resets = resets_formed m net is (latches_differ m sound.once);
  acyclic = acyclic_nets m net is sound;
  alone = resets_alone m net is sound;
}
