-- The one model of a proper design: it is lawful, it is sound and within the limits where the design is, and it means what the
-- design means.
use Rattle.std.proofs.Common.{◌≡◌, ℕ, zero, suc, ◌<◌, ◌≤◌, true, false, not, length, List, [], ◌∷◌, Some, get_or, map, Ok, Err, refl, sym, ◌∙◌, ap, subst, arith, All}
use Rattle.std.specs.Prelude.{Result, IfOk, OnOk}
use Rattle.std.proofs.lemmas.Bool.{and_parts, false≢true, false_from_ne_true, not-true, or_parts}
use Rattle.std.proofs.lemmas.List.Elements.{All-get_or, All-weaker}
use Rattle.mv_base.specs.Meaning.{SameMeaning}
use Rattle.mv_base.specs.declared.limits.TheConstants.{MAX_FLAT_NETS}
use Rattle.mv_base.specs.Names.{among, names_differ, same_word}
use Rattle.mv_base.proofs.Meanings.{SameMeaning-then}
use Rattle.mv_base.proofs.NameLemmas.{same_word_is, same_word_refl}
use Rattle.mv_graph.specs.Above.{IsAcyclic}
use Rattle.mv_design.specs.declared.design.Design.{Design}
use Rattle.mv_design.specs.declared.design.FileModel.{FileModel}
use Rattle.mv_design.specs.Meaning.{of_model}
use Rattle.mv_design.specs.Nets.{no_model, root_of}
use Rattle.mv_design.specs.Proper.{IsLawful, IsProper, IsProperModel}
use Rattle.mv_net.specs.Allowed.{of_net}
use Rattle.mv_net.specs.declared.parts.NetParts.{NetParts}
use Rattle.mv_tree.specs.Tree.{Instances, Unfolds, model_named}
use Rattle.mv_tree.specs.Places.{homes, places}
use Rattle.mv_tree.specs.Bound.{AreBound}
use Rattle.mv_tree.specs.Meaning.{of_tree}
use Rattle.mv_tree.specs.Unfolded.{unfolded}
use Rattle.mv_tree.proofs.Grammar.{follows_grammar, lawful}
use Rattle.mv_tree.proofs.Models.{lawful_models}
use Rattle.mv_tree.proofs.Same.{same_meaning}
use Rattle.mv_walk.specs.Trees.{IsRootNamed}
use Rattle.mv_walk.specs.Walk.{HasTree}
use Rattle.mv_acyclic.specs.Sound.{reads, AreNetsOf, HasResetsOfLatches, IsDrivenOnce, IsSoundModel, IsWithinLimits, StandsAlone}
use Rattle.mv_unfold.specs.Sound.{IsSound, IsWithinDesignLimits, model_of, of_sound}
use Rattle.mv_unfold.specs.Whole.{HasGoodNets, HasShortNames}
use Rattle.mv_unfold.proofs.OfWhole.{is_whole, driven_once, resets_of_whole, same_nets, within_limits}
use Rattle.mv_resets.specs.Resets.{with_reset_nets}
use Rattle.mv_flat.specs.Built.{IsBuilt}
use Rattle.mv_flat.specs.Flat.{HasSmallNetwork, IsFlat}
use Rattle.mv_flat.proofs.Models.{meant}

-- the root of a proper design is a proper model
pub root_proper : (d : Design) → IsProper d → IsProperModel (root_of d)
unfolding root_of
root_proper d proper = All-get_or IsProperModel d.models d.root no_model proper.root proper.models

-- and it is the first of its name
named_at : (ms : List FileModel) (k : ℕ) → names_differ (map (λ m. m.name) ms) ≡ true → k < length ms
    → model_named ms (get_or ms k no_model).name ≡ Some (get_or ms k no_model)
named_at [] k differ low = absurd (omega (arith, low))
named_at (m ∷ ms) zero differ low = rw (same_word_refl m.name) refl
named_at (m ∷ ms) (suc k) differ low =
    let q = and_parts (not (among m.name (map (λ m. m.name) ms))) (names_differ (map (λ m. m.name) ms)) differ in
    let other : same_word (get_or ms k no_model).name m.name ≡ false = not_earlier ms k m.name (not-true _ q.0) (omega (arith, low)) in
    rw other (named_at ms k q.1 (omega (arith, low)))
  where
    not_earlier : (ms : List FileModel) (k : ℕ) (name : List ℕ) → among name (map (λ m. m.name) ms) ≡ false → k < length ms → same_word (get_or ms k no_model).name name ≡ false
    not_earlier [] k name none low = absurd (omega (arith, low))
    not_earlier (m ∷ ms) zero name none low = apart name m.name (or_parts (same_word name m.name) _ none).0
      where
        apart : (u w : List ℕ) → same_word u w ≡ false → same_word w u ≡ false
        apart u w n = false_from_ne_true (same_word w u) (λ y. false≢true (sym n ∙ (ap (same_word u) (same_word_is w u y) ∙ same_word_refl u)))
    not_earlier (m ∷ ms) (suc k) name none low = not_earlier ms k name (or_parts (same_word name m.name) _ none).1 (omega (arith, low))

pub root_named : (d : Design) → IsProper d → IsRootNamed d
unfolding root_of
root_named d proper = record { named = named_at d.models d.root proper.differ proper.root }

lawful_places : (d : Design) (tree : Instances) → IsProper d → Unfolds d (root_of d).instances tree → All (λ p. IsLawful p.model) (places (root_of d) tree)
lawful_places d tree proper unfolds =
    lawful_models d (root_of d) tree unfolds (All-weaker IsProperModel IsLawful (λ m h. h.lawful) d.models proper.models) (root_proper d proper).lawful

-- what is known of the one model of a design with this tree
pub record IsOneModel (d : Design) (tree : Instances) (m : FileModel) : Type 0 where
  pub lawful : IsLawful m
  pub driven : IsDrivenOnce m
  pub resets : HasResetsOfLatches m
  pub nets : AreNetsOf m (homes (places (root_of d) tree))
  pub limits : IsWithinLimits m
  pub means : SameMeaning (of_model m) (of_tree (root_of d) tree)

one_model : (d : Design) (tree : Instances) → IsProper d → Unfolds d (root_of d).instances tree → AreBound (root_of d) tree → HasGoodNets (root_of d) tree
    → HasShortNames (root_of d) tree → IsOneModel d tree (unfolded (root_of d) tree)
one_model d tree proper unfolds bound good short =
    let root = root_of d in
    let models = lawful_places d tree proper unfolds in
    record {
      lawful = lawful d root tree unfolds bound good.differ models;
      driven = driven_once d root tree unfolds bound good;
      resets = resets_of_whole d root tree unfolds models bound good;
      nets = record { named = same_nets d root tree unfolds bound good };
      limits = within_limits d root tree unfolds bound good short;
      means = same_meaning d root tree unfolds (is_whole d root tree unfolds bound good) (follows_grammar d root tree unfolds models);
    }

-- what is known of the one model of a sound design within the limits
pub record IsSoundOne (d : Design) (tree : Instances) (m : FileModel) : Type 0 where
  pub one : IsOneModel d tree m
  pub sound : IsSoundModel m

pub model_sound : (d : Design) → IsProper d → (s : IsSound d) → IsWithinDesignLimits d s.tree → IsSoundOne d s.tree (model_of d s)
model_sound d proper s limits =
    let one = one_model d s.tree proper s.unfolds s.bound s.nets limits.short in
    record { one = one; sound = record { driven = one.driven; resets = one.resets; acyclic = s.acyclic; alone = s.alone } }

-- the network of the one model of a sound design is the design's
pub flat_design : (d : Design) (net : NetParts) → IsProper d → (s : IsSound d) → IsWithinDesignLimits d s.tree → HasSmallNetwork (model_of d s)
    → IsBuilt (with_reset_nets (model_of d s)) net → IsFlat net d
flat_design d net proper s limits fits built =
    let m = model_of d s in
    let h = model_sound d proper s limits in
    let n = meant m net h.one.lawful h.sound h.one.limits built in
    record {
      sound = s;
      limits = limits;
      fits = fits;
      built = built;
      means = SameMeaning-then (of_net net) (of_model m) (of_sound d s) n.means h.one.means;
      short = n.short;
    }

-- ---- the one model as it is made

-- this is the one model of a design whose instances and nets are right, and these are its nets
pub record IsModelOf (d : Design) (m : FileModel) (nets : List (List ℕ)) : Type 0 where
  pub tree : Instances
  pub has : HasTree d tree
  pub good : HasGoodNets (root_of d) tree
  pub short : HasShortNames (root_of d) tree
  pub model_is : m ≡ unfolded (root_of d) tree
  pub nets_are : nets ≡ homes (places (root_of d) tree)

pub made_one : (d : Design) (m : FileModel) (nets : List (List ℕ)) → IsProper d → (h : IsModelOf d m nets) → IsOneModel d h.tree m
made_one d m nets proper h =
    let P : FileModel → Type 0 = IsOneModel d h.tree in
    subst P (sym h.model_is) (one_model d h.tree proper h.has.unfolds h.has.bound h.good h.short)

pub made_nets : (d : Design) (m : FileModel) (nets : List (List ℕ)) → IsProper d → IsModelOf d m nets → AreNetsOf m nets
made_nets d m nets proper h = subst (AreNetsOf m) (sym h.nets_are) (made_one d m nets proper h).nets

pub made_few : (d : Design) (m : FileModel) (nets : List (List ℕ)) → IsModelOf d m nets → length nets ≤ MAX_FLAT_NETS
made_few d m nets h = let e = ap length h.nets_are in let f = h.short.few in omega (arith, e, f)

-- it is sound where no net is above itself, and no latch above a reset value
pub made_sound : (d : Design) (m : FileModel) (nets : List (List ℕ)) → IsProper d → IsModelOf d m nets → IsAcyclic (reads m) → All (StandsAlone m) m.resets → IsSoundModel m
made_sound d m nets proper h acyclic alone =
    let one = made_one d m nets proper h in
    record { driven = one.driven; resets = one.resets; acyclic = acyclic; alone = alone }

-- and so is the design then, and within the limits
pub record IsModelOfSound (d : Design) (m : FileModel) : Type 0 where
  pub sound : IsSound d
  pub limits : IsWithinDesignLimits d sound.tree
  pub model_is : m ≡ model_of d sound

pub design_sound : (d : Design) (m : FileModel) (nets : List (List ℕ)) → IsModelOf d m nets → IsAcyclic (reads m) → All (StandsAlone m) m.resets → IsModelOfSound d m
design_sound d m nets h acyclic alone =
    let P : FileModel → Type 0 = λ n. All (StandsAlone n) n.resets in
    record {
      sound = record {
        tree = h.tree;
        unfolds = h.has.unfolds;
        bound = h.has.bound;
        nets = h.good;
        acyclic = subst (λ (n : FileModel). IsAcyclic (reads n)) h.model_is acyclic;
        alone = subst P h.model_is alone;
      };
      limits = record { shallow = h.has.shallow; few = h.has.few; short = h.short };
      model_is = h.model_is;
    }

pub made_flat : (d : Design) (m : FileModel) (nets : List (List ℕ)) (net : NetParts) → IsProper d → IsModelOf d m nets → IsAcyclic (reads m) → All (StandsAlone m) m.resets
    → HasSmallNetwork m → IsBuilt (with_reset_nets m) net → IsFlat net d
made_flat d m nets net proper h acyclic alone fits built =
    let s = design_sound d m nets h acyclic alone in
    let P : FileModel → Type 0 = λ n. IsBuilt (with_reset_nets n) net in
    flat_design d net proper s.sound s.limits (subst HasSmallNetwork s.model_is fits) (subst P s.model_is built)

-- the same of an answer
pub answered_flat : {E : Type 0} (r : Result NetParts E) (d : Design) (m : FileModel) (nets : List (List ℕ)) → IsProper d → IsModelOf d m nets → IsAcyclic (reads m)
    → All (StandsAlone m) m.resets → OnOk r (HasSmallNetwork m) → IfOk r (IsBuilt (with_reset_nets m)) → IfOk r (λ net. IsFlat net d)
answered_flat (Ok net) d m nets proper h acyclic alone fits built = made_flat d m nets net proper h acyclic alone fits built
answered_flat (Err f) d m nets proper h acyclic alone fits built = tt
