-- The text of a well-formed network reads as a design that means what the network means.
use Rattle.std.proofs.Common.{◌≡◌, List, [], ◌∷◌, length, All, refl, sym, ap, subst}
use Rattle.std.proofs.lemmas.List.Elements.{All-nil, All-cons}
use Rattle.mv_base.specs.Meaning.{SameMeaning}
use Rattle.mv_base.proofs.Meanings.{SameMeaning-then}
use Rattle.mv_lex.specs.declared.lines.LexLine.{LexLine}
use Rattle.mv_parse.specs.Grammar.{IsDesign}
use Rattle.mv_design.specs.declared.design.FileModel.{FileModel}
use Rattle.mv_design.specs.declared.design.Instance.{Instance}
use Rattle.mv_design.specs.declared.table.FileTable.{FileTable}
use Rattle.mv_design.specs.Nets.{root_of}
use Rattle.mv_design.specs.Meaning.{of_model}
use Rattle.mv_tree.specs.Tree.{NoMore, Unfolds}
use Rattle.mv_tree.specs.Places.{root_place, places}
use Rattle.mv_tree.specs.Unfolded.{unfolded}
use Rattle.mv_tree.specs.Meaning.{of_tree}
use Rattle.mv_tree.specs.Bound.{FollowsGrammar}
use Rattle.mv_tree.proofs.Same.{same_meaning}
use Rattle.mv_unfold.specs.Sound.{IsSound}
use Rattle.mv_unfold.proofs.Alone.{good_alone}
use Rattle.mv_unfold.proofs.OfWhole.{is_whole}
use Rattle.mv_net.specs.declared.parts.NetParts.{NetParts}
use Rattle.mv_net.specs.Allowed.{of_net}
use Rattle.mv_net.specs.Formed.{WellFormed}
use Rattle.mv_text.specs.Text.{text_of}
use Rattle.mv_text_back.specs.Back.{ReadsAs, ReadsBack}
use Rattle.mv_text_back.proofs.TextModel.{is_reset_net, IsModelOf, design_with}
use Rattle.mv_text_back.proofs.ModelTables.{AllOfNets, all_of_nets}
use Rattle.mv_text_back.proofs.NetLines.{lines-back, clean-back}
use Rattle.mv_text_back.proofs.ModelBack.{IsReadModel, model-back}
use Rattle.mv_text_back.proofs.BackSound.{sound-back}
use Rattle.mv_text_back.proofs.BackMeaning.{means-back}

-- ---- a model without instances, as a design

no_instances : (net : NetParts) (m : FileModel) → IsModelOf net m → Unfolds (design_with m) m.instances NoMore
no_instances net m model = subst (λ (ps : List Instance). Unfolds (design_with m) ps NoMore) (sym model.instances) tt

sound : (net : NetParts) (m : FileModel) → WellFormed net → IsModelOf net m → IsSound (design_with m)
unfolding root_of unfolded
sound net m formed model =
    let s = sound-back net m formed model in
    record {
      tree = NoMore;
      unfolds = no_instances net m model;
      bound = tt;
      nets = good_alone m model.instances s.driven s.resets;
      acyclic = s.acyclic;
      alone = s.alone;
    }

-- ---- what it means

one_output : (net : NetParts) (ts : List FileTable) → AllOfNets net.nets is_reset_net ts → All (λ (t : FileTable). length t.outputs ≡ 1) ts
one_output net [] all = All-nil (λ (t : FileTable). length t.outputs ≡ 1)
one_output net (t ∷ ts) all = All-cons (λ (u : FileTable). length u.outputs ≡ 1) t ts (ap length all.0.is.outputs) (one_output net ts all.1)

grammar : (net : NetParts) (m : FileModel) → IsModelOf net m → All FollowsGrammar (places m NoMore)
grammar net m model =
    All-cons FollowsGrammar (root_place m) [] (record { once = refl; single = one_output net m.resets (all_of_nets net.nets is_reset_net m.resets model.resets) })
    (All-nil FollowsGrammar)

means : (net : NetParts) (m : FileModel) → WellFormed net → IsModelOf net m → SameMeaning (of_tree m NoMore) (of_net net)
unfolding unfolded root_of sound
means net m formed model =
    let here = no_instances net m model in
    let nets = (sound net m formed model).nets in
    let tree = same_meaning (design_with m) m NoMore here (is_whole (design_with m) m NoMore here tt nets) (grammar net m model) in
    SameMeaning-then (of_tree m NoMore) (of_model m) (of_net net) (record { same = sym tree.same; only = tree.all; all = tree.only }) (means-back net m formed model)

-- ---- the text

reads_as : (net : NetParts) → WellFormed net → (r : IsReadModel net) → ReadsAs (text_of net) (design_with r.model)
reads_as net formed r = record {
  clean = clean-back net formed;
  design = subst (λ (ls : List LexLine). IsDesign ls (design_with r.model)) (sym (lines-back net formed)) r.design;
  sound = sound net r.model formed r.is_model;
}

pub reads-back : (net : NetParts) → WellFormed net → ReadsBack net
unfolding root_of sound reads_as
reads-back net formed =
    let r = model-back net formed in
    record {
      design = design_with r.model;
      reads = reads_as net formed r;
      means = means net r.model formed r.is_model;
    }
