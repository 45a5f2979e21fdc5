-- The network of a sound model: it is well formed, has few enough nets and no name that is too long, and means what the
-- model means.
use Rattle.std.proofs.Common.{◌≡◌, ℕ, ◌≤◌, true, List, length, refl, sym, subst, arith, All}
use Rattle.mv_base.specs.Meaning.{SameMeaning}
use Rattle.mv_base.specs.Names.{among}
use Rattle.mv_base.specs.declared.limits.TheConstants.{MAX_NETS}
use Rattle.mv_base.proofs.Meanings.{SameMeaning-then}
use Rattle.mv_base.proofs.NameLemmas.{IsDistinct-from_differ}
use Rattle.mv_design.specs.declared.design.FileModel.{FileModel}
use Rattle.mv_net.specs.Allowed.{of_net}
use Rattle.mv_net.specs.Formed.{WellFormed}
use Rattle.mv_net.specs.declared.parts.NetParts.{NetParts}
use Rattle.mv_design.specs.Meaning.{of_model}
use Rattle.mv_design.specs.Nets.{nets_named, drivers}
use Rattle.mv_design.specs.Proper.{IsLawful}
use Rattle.mv_flat.specs.Places.{net_places}
use Rattle.mv_resets.specs.NetModels.{HasFewNets, HasSoundNets, IsNetModel}
use Rattle.mv_resets.specs.Resets.{with_reset_nets}
use Rattle.mv_resets.specs.Valued.{of_nets}
use Rattle.mv_resets.proofs.NetModels.{net_model, inputs_driven}
use Rattle.mv_resets.proofs.SoundNets.{sound_nets, few_nets as few_drivers}
use Rattle.mv_resets.proofs.Valued.{same_meaning as same_with_resets}
use Rattle.mv_acyclic.specs.Sound.{IsDrivenOnce, IsSoundModel, IsWithinLimits}
use Rattle.mv_acyclic.proofs.Distinct.{differ_counted, drivers_counted, net_is_driven}
use Rattle.mv_flat.proofs.Distinct.{places_differ, few_places}
use Rattle.mv_flat.proofs.Known.{tables_placed}
use Rattle.mv_acyclic.proofs.Commands.{named_is_net}
use Rattle.mv_flat.specs.Built.{IsBuilt}
use Rattle.mv_flat.specs.Flat.{AreShort}
use Rattle.mv_flat.specs.Placed.{IsPlacedTable}
use Rattle.mv_flat.proofs.Places.{IsModelNet, nets_size}
use Rattle.mv_flat.proofs.Same.{net_same}
use Rattle.mv_flat.proofs.ShortNames.{names_short}
use Rattle.mv_flat.proofs.Formed.{net_formed}

-- ---- a model with a net for each reset value

named_driven : (m : FileModel) → IsDrivenOnce m → (w : List ℕ) → among w (nets_named m) ≡ true → among w (drivers m) ≡ true
named_driven m d w h = net_is_driven m w d (named_is_net m w h)

pub model_net : (m : FileModel) (net : NetParts) → IsNetModel m → HasSoundNets m → IsBuilt m net → IsModelNet m net
model_net m net proper sound built = record {
  proper = proper;
  distinct = IsDistinct-from_differ (net_places m) (places_differ m proper sound.once);
  once = IsDistinct-from_differ (drivers m) (differ_counted (drivers m) (drivers_counted m sound.once));
  driven = named_driven m sound.once;
  built = built;
}

pub well_formed : (m : FileModel) (net : NetParts) → IsNetModel m → HasSoundNets m → IsBuilt m net → WellFormed net
well_formed m net proper sound built = net_formed m net (model_net m net proper sound built) sound

pub places_few : (m : FileModel) → IsNetModel m → HasFewNets m → length (net_places m) ≤ MAX_NETS
places_few m proper limits =
    let twice = few_places m proper in
    let few = limits.few in
    omega arith

pub nets_few : (m : FileModel) (net : NetParts) → IsNetModel m → HasSoundNets m → HasFewNets m → IsBuilt m net → length net.nets ≤ MAX_NETS
nets_few m net proper sound limits built =
    let size = nets_size m net (model_net m net proper sound built) in
    let few = places_few m proper limits in
    omega arith

pub same_meaning : (m : FileModel) (net : NetParts) → IsNetModel m → HasSoundNets m → IsBuilt m net → SameMeaning (of_net net) (of_nets m)
same_meaning m net proper sound built = net_same m net (model_net m net proper sound built)

-- ---- a sound model and the one with a net for each reset value

-- the second is the first with a net for each reset value, and its nets are as they are to be
pub record IsWithNets (m nets : FileModel) : Type 0 where
  pub proper : IsNetModel nets
  pub sound : HasSoundNets nets
  pub few : HasFewNets nets
  pub placed : All (IsPlacedTable nets.decls (drivers m)) nets.tables

pub with_nets : (m nets : FileModel) → IsLawful m → IsSoundModel m → IsWithinLimits m → nets ≡ with_reset_nets m → IsWithNets m nets
with_nets m nets lawful sound limits e =
    let P : FileModel → Type 0 = IsWithNets m in
    let model = net_model m lawful sound in
    subst P (sym e)
    (record {
      proper = model;
      sound = sound_nets m lawful sound;
      few = few_drivers m lawful sound limits;
      placed = tables_placed (with_reset_nets m).decls (drivers m) (with_reset_nets m).tables model.tables (inputs_driven m sound.driven);
    })

-- its network means the same, and has no name that is too long
pub record IsMeant (m : FileModel) (net : NetParts) : Type 0 where
  pub means : SameMeaning (of_net net) (of_model m)
  pub short : AreShort net.nets

pub meant : (m : FileModel) (net : NetParts) → IsLawful m → IsSoundModel m → IsWithinLimits m → IsBuilt (with_reset_nets m) net → IsMeant m net
meant m net lawful sound limits built =
    let nets = with_reset_nets m in
    let are = with_nets m nets lawful sound limits refl in
    record {
      means = SameMeaning-then (of_net net) (of_nets nets) (of_model m) (same_meaning nets net are.proper are.sound built) (same_with_resets m lawful sound);
      short = names_short nets net are.few built;
    }
