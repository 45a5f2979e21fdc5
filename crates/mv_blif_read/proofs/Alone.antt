-- The network of a design without instances: it is that of its root, and is seen as the root is.
use Rattle.std.proofs.Common.{◌≡◌, ℕ, true, List, [], ◌∷◌, ◌++◌, map, refl, sym, ◌∙◌, ap, subst}
use Rattle.std.proofs.lemmas.List.{append-nil}
use Rattle.std.proofs.lemmas.List.Elements.{All-head}
use Rattle.mv_base.specs.Meaning.{Interface}
use Rattle.mv_base.specs.Names.{names_differ}
use Rattle.mv_design.specs.declared.design.Design.{Design}
use Rattle.mv_design.specs.declared.design.FileModel.{FileModel}
use Rattle.mv_design.specs.declared.design.Instance.{Instance}
use Rattle.mv_design.specs.Meaning.{may_begin_all, port}
use Rattle.mv_design.specs.Nets.{latch_outputs, root_of}
use Rattle.mv_design.specs.Proper.{IsLawful, IsProper}
use Rattle.mv_tree.specs.Tree.{Instances, NoMore, More, Unfolds}
use Rattle.mv_tree.specs.Places.{Place, places_in, root_place}
use Rattle.mv_tree.specs.Meaning.{AllowsTree, of_tree, placed_port}
use Rattle.mv_tree.specs.Unfolded.{unfolded}
use Rattle.mv_acyclic.specs.Sound.{HasResetsOfLatches, IsSoundModel, IsWithinLimits}
use Rattle.mv_unfold.specs.Sound.{IsSound, model_of}
use Rattle.mv_unfold.proofs.OfWhole.{driven_once, within_limits}
use Rattle.mv_resets.specs.NetModels.{HasSoundNets}
use Rattle.mv_resets.specs.Resets.{with_reset_nets}
use Rattle.mv_resets.proofs.SoundNets.{latches_differ}
use Rattle.mv_net.specs.declared.parts.NetParts.{NetParts}
use Rattle.mv_net.specs.Allowed.{of_net}
use Rattle.mv_net.specs.Formed.{WellFormed}
use Rattle.mv_net.specs.Nets.{interface_of, latch_port_of, port_of}
use Rattle.mv_flat.specs.Built.{IsBuilt}
use Rattle.mv_flat.specs.Flat.{IsFlat}
use Rattle.mv_flat.proofs.Designs.{root_proper}
use Rattle.mv_flat.proofs.Models.{model_net, well_formed, with_nets}
use Rattle.mv_flat.proofs.Places.{IsModelNet}

-- commands that make no instance make no tree
tree_alone : (d : Design) (ps : List Instance) (tree : Instances) → ps ≡ [] → Unfolds d ps tree → tree ≡ NoMore
tree_alone d [] NoMore none u = refl
tree_alone d [] (More p m inside rest) none u = absurd u
tree_alone d (p ∷ ps) tree none u = cc

-- the latches of the model may begin with these values, under some values of its nets
pub record Begin (m : FileModel) (r : List ℕ) : Type 0 where
  pub value : List ℕ → ℕ
  pub may : may_begin_all m value m.latches r ≡ true

begin_alone : (m : FileModel) (i s o n r : List ℕ) → AllowsTree m NoMore i s o n r → Begin m r
begin_alone m i s o n r a =
    let b = a.resets in
    let all : r ≡ b.here = b.joined ∙ (ap (λ rest. b.here ++ rest) b.others ∙ append-nil b.here) in
    record { value = a.value; may = ap (may_begin_all m a.value m.latches) all ∙ b.begins }

-- the network of a model without instances: it is well formed, its ports and latches are seen as the model's, and the latches begin as
-- they may in the model
pub record IsNetOfModel (m : FileModel) (net : NetParts) : Type 0 where
  pub is : IsModelNet (with_reset_nets m) net
  pub formed : WellFormed net
  pub differ : names_differ (latch_outputs m) ≡ true
  pub inputs : map (port_of net.nets) net.inputs ≡ map (port m) m.inputs
  pub latches : map (latch_port_of net.nets) net.latches ≡ map (placed_port (root_place m)) m.latches
  pub begins : (i s o n r : List ℕ) → (of_net net).allows i s o n r → Begin m r

module _ (d : Design) (net : NetParts) (proper : IsProper d) (f : IsFlat net d) (none : (root_of d).instances ≡ []) where
  alone : f.sound.tree ≡ NoMore
  alone = tree_alone d (root_of d).instances f.sound.tree none f.sound.unfolds

  -- the one model is the root
  same : model_of d f.sound ≡ root_of d
  unfolding unfolded
  same = ap (unfolded (root_of d)) alone

  sound : IsSoundModel (root_of d)
  sound =
      let s = f.sound in
      let P : Place → Type 0 = λ p. HasResetsOfLatches p.model in
      let here : HasResetsOfLatches (root_of d) = All-head P (root_place (root_of d)) (places_in (root_place (root_of d)) s.tree) s.nets.resets in
      subst IsSoundModel same
      (record {
        driven = driven_once d (root_of d) s.tree s.unfolds s.bound s.nets;
        resets = subst HasResetsOfLatches (sym same) here;
        acyclic = s.acyclic;
        alone = s.alone;
      })

  limits : IsWithinLimits (root_of d)
  limits =
      let s = f.sound in
      subst IsWithinLimits same (within_limits d (root_of d) s.tree s.unfolds s.bound s.nets f.limits.short)

  built : IsBuilt (with_reset_nets (root_of d)) net
  built = let P : FileModel → Type 0 = λ m. IsBuilt (with_reset_nets m) net in subst P same f.built

  -- what is seen of the network is what is seen of the root
  seen : interface_of net ≡ (of_tree (root_of d) NoMore).interface
  unfolding of_net
  seen = f.means.same ∙ ap (λ t. (of_tree (root_of d) t).interface) alone

  inputs_seen : map (port_of net.nets) net.inputs ≡ map (port (root_of d)) (root_of d).inputs
  unfolding interface_of of_tree
  inputs_seen = ap (λ (i : Interface). i.inputs) seen

  latches_seen : map (latch_port_of net.nets) net.latches ≡ map (placed_port (root_place (root_of d))) (root_of d).latches
  unfolding interface_of of_tree
  latches_seen =
      ap (λ (i : Interface). i.latches) seen ∙ append-nil (map (placed_port (root_place (root_of d))) (root_of d).latches)

  begins : (i s o n r : List ℕ) → (of_net net).allows i s o n r → Begin (root_of d) r
  unfolding of_tree
  begins i s o n r a =
      let P : Instances → Type 0 = λ t. (of_tree (root_of d) t).allows i s o n r in
      begin_alone (root_of d) i s o n r (subst P alone (f.means.only i s o n r a))

  pub alone_net : IsNetOfModel (root_of d) net
  alone_net =
      let m = root_of d in
      let lawful : IsLawful m = (root_proper d proper).lawful in
      let are = with_nets m (with_reset_nets m) lawful sound limits refl in
      record {
        is = model_net (with_reset_nets m) net are.proper are.sound built;
        formed = well_formed (with_reset_nets m) net are.proper are.sound built;
        differ = latches_differ m sound.driven;
        inputs = inputs_seen;
        latches = latches_seen;
        begins = begins;
      }
