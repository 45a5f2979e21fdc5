-- The text of a network as BLIF reads as a sound design that means what the network with its written tables means.
use Rattle.std.proofs.Common.{◌≡◌, ◌∙◌, ℕ, ◌+◌, List, [], ◌∷◌, length, All, refl, sym}
use Rattle.std.specs.Prelude.{nat_lt}
use Rattle.std.proofs.lemmas.Bool.{cond_both}
use Rattle.std.proofs.lemmas.List.Elements.{All-nil, All-cons, All-append}
use Rattle.mv_base.specs.Meaning.{SameMeaning}
use Rattle.mv_base.proofs.Meanings.{SameMeaning-then}
use Rattle.mv_design.specs.declared.design.Design.{Design}
use Rattle.mv_design.specs.declared.design.FileModel.{FileModel}
use Rattle.mv_design.specs.declared.table.FileTable.{FileTable}
use Rattle.mv_design.specs.Meaning.{of_model}
use Rattle.mv_design.specs.Nets.{root_of}
use Rattle.mv_latch.specs.declared.latch.BlifLatch.{BlifLatch}
use Rattle.mv_net.specs.declared.parts.FlatLatch.{FlatLatch}
use Rattle.mv_net.specs.declared.parts.NetParts.{NetParts}
use Rattle.mv_net.specs.Allowed.{of_net}
use Rattle.mv_net.specs.Changes.{with_nets}
use Rattle.mv_net.specs.Formed.{WellFormed}
use Rattle.mv_net.specs.Nets.{slot, name_in}
use Rattle.mv_tree.specs.Bound.{FollowsGrammar}
use Rattle.mv_tree.specs.Meaning.{of_tree}
use Rattle.mv_tree.specs.Places.{root_place, places}
use Rattle.mv_tree.specs.Tree.{NoMore, Unfolds}
use Rattle.mv_tree.specs.Unfolded.{unfolded}
use Rattle.mv_tree.proofs.Same.{same_meaning}
use Rattle.mv_unfold.specs.Sound.{IsSound}
use Rattle.mv_unfold.proofs.Alone.{good_alone}
use Rattle.mv_unfold.proofs.OfWhole.{is_whole}
use Rattle.mv_blif_line.specs.Latches.{constant_reset}
use Rattle.mv_blif_text.specs.BlifText.{blif_text}
use Rattle.mv_chosen.specs.Written.{written_nets}
use Rattle.mv_blif_back.specs.Back.{ReadsAs, ReadsBack}
use Rattle.mv_blif_back.specs.Model.{reset_said, resets_said, model_said, design_said}
use Rattle.mv_blif_back.specs.Said.{AreSaid, IsBinary, inits}
use Rattle.mv_blif_back.proofs.Accepted.{text-within}
use Rattle.mv_blif_back.proofs.Acyclic.{model-acyclic, model-alone}
use Rattle.mv_blif_back.proofs.Assigned.{assigned}
use Rattle.mv_blif_back.proofs.Driven.{driven-once, own-latches}
use Rattle.mv_blif_back.proofs.Interfaces.{same-interface}
use Rattle.mv_blif_back.proofs.Sayings.{text-is_design}
use Rattle.mv_blif_back.proofs.Valued.{valued}
use Rattle.mv_blif_back.proofs.Written.{text-clean}
use Rattle.mv_blif_back.proofs.WrittenNets.{written-interface}

module _ (net : NetParts) (bs : List BlifLatch) where
  abbrev model : FileModel
  model = model_said net bs

  abbrev design : Design
  design = (design_said net bs).design

  -- ---- the model as a design

  no_instances : model.instances ≡ []
  unfolding model_said
  no_instances = refl

  none_unfold : Unfolds design model.instances NoMore
  unfolding model_said
  none_unfold = tt

  pub sound : WellFormed net → IsSound design
  unfolding root_of unfolded
  sound formed = record {
    tree = NoMore;
    unfolds = none_unfold;
    bound = tt;
    nets = good_alone model no_instances (driven-once net formed bs) (own-latches net formed bs);
    acyclic = model-acyclic net formed bs;
    alone = model-alone net formed bs;
  }

  -- ---- what it means

  abbrev HasOne : FileTable → Type 0
  HasOne t = length t.outputs ≡ 1

  one_output : (line : ℕ) (l : FlatLatch) (init : ℕ) → All HasOne (reset_said net.nets line l init)
  one_output line l init =
      let reset = constant_reset line (name_in (slot net.nets l.output.0)) init in
      cond_both (nat_lt init 2) (reset ∷ []) [] (All HasOne) (λ y. All-cons HasOne reset [] refl (All-nil HasOne)) (λ none. All-nil HasOne)

  one_outputs : (line : ℕ) (ls : List FlatLatch) (cs : List BlifLatch) → All HasOne (resets_said net.nets line ls cs)
  one_outputs line [] cs = All-nil HasOne
  one_outputs line (l ∷ ls) [] = All-nil HasOne
  one_outputs line (l ∷ ls) (c ∷ cs) = All-append HasOne (reset_said net.nets line l c.init) (resets_said net.nets (line + 1) ls cs) (one_output line l c.init) (one_outputs (line + 1) ls cs)

  resets_single : All HasOne model.resets
  unfolding model_said
  resets_single = one_outputs 4 net.latches bs

  grammar : All FollowsGrammar (places model NoMore)
  grammar = All-cons FollowsGrammar (root_place model) [] (record { once = refl; single = resets_single }) (All-nil FollowsGrammar)

  model_means : WellFormed net → IsBinary net → AreSaid net net.latches bs → SameMeaning (of_model model) (of_net (with_nets net (written_nets net (inits bs))))
  unfolding of_model of_net
  model_means formed binary said = record {
    same = same-interface net formed bs binary said ∙ sym (written-interface net (inits bs));
    only = assigned net formed binary bs said;
    all = valued net formed binary bs said;
  }

  means : WellFormed net → IsBinary net → AreSaid net net.latches bs → SameMeaning (of_tree model NoMore) (of_net (with_nets net (written_nets net (inits bs))))
  unfolding unfolded root_of sound
  means formed binary said =
      let nets = (sound formed).nets in
      let tree = same_meaning design model NoMore none_unfold (is_whole design model NoMore none_unfold tt nets) grammar in
      SameMeaning-then (of_tree model NoMore) (of_model model) (of_net (with_nets net (written_nets net (inits bs)))) (record { same = sym tree.same; only = tree.all; all = tree.only }) (model_means formed binary said)

  -- ---- the text

  reads_as : WellFormed net → AreSaid net net.latches bs → ReadsAs (blif_text net bs) (design_said net bs)
  reads_as formed said = record { clean = text-clean net formed bs said; design = text-is_design net bs formed said; sound = sound formed }

  pub reads-back : WellFormed net → IsBinary net → AreSaid net net.latches bs → ReadsBack net bs
  unfolding root_of sound reads_as
  reads-back formed binary said = record {
    design = design_said net bs;
    reads = reads_as formed said;
    latches = refl;
    means = means formed binary said;
    limits = text-within net bs formed said;
  }
