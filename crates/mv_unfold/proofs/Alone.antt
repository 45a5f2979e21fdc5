-- Models without instances: their nets are those of a root without instances; and the one model of a root and its instances is
-- such a model.
use Rattle.std.proofs.Common.{◌≡◌, ℕ, true, List, [], ◌∷◌, ◌++◌, map, refl, ◌∙◌, ap}
use Rattle.std.specs.Prelude.{◌==◌}
use Rattle.std.specs.List.{flat_map, list_all}
use Rattle.std.proofs.lemmas.List.{append-nil}
use Rattle.std.proofs.lemmas.List.Elements.{All-cons, All-nil}
use Rattle.mv_base.specs.Firsts.{firsts_by}
use Rattle.mv_base.specs.Names.{same_word, names_differ}
use Rattle.mv_design.specs.declared.design.Design.{Design}
use Rattle.mv_design.specs.declared.design.FileModel.{FileModel}
use Rattle.mv_design.specs.declared.design.Instance.{Instance}
use Rattle.mv_design.specs.ByLine.{by_line}
use Rattle.mv_design.specs.Nets.{namings, nets_named, nets_of, drivers_of}
use Rattle.mv_tree.specs.Tree.{NoMore, Unfolds}
use Rattle.mv_tree.specs.Places.{instance_naming, all_namings, all_nets, root_place, places, own_nets, homes_at, homes}
use Rattle.mv_tree.specs.Unfolded.{unfolded}
use Rattle.mv_acyclic.specs.Sound.{IsDrivenOnce, HasResetsOfLatches}
use Rattle.mv_acyclic.proofs.Names.{all_from_among}
use Rattle.mv_unfold.specs.Whole.{HasGoodNets}
use Rattle.mv_acyclic.proofs.Distinct.{nets_differ}
use Rattle.mv_unfold.proofs.Wholly.{same_names, all_own}

nets_alone : (m : FileModel) → m.instances ≡ [] → all_nets m ≡ nets_of m
unfolding all_nets all_namings nets_of nets_named
nets_alone m e =
    let named : List Instance → List (List ℕ) = λ ps. m.inputs ++ (m.outputs ++ flat_map (λ n. n.nets) (by_line (λ n. n.line) (map instance_naming ps) (namings m))) in
    ap (λ ps. firsts_by same_word (named ps)) e

-- the names of a root's nets are those that its commands name
pub homes_alone : (m : FileModel) → m.instances ≡ [] → homes (places m NoMore) ≡ nets_of m
unfolding homes
homes_alone m e = append-nil (homes_at (root_place m)) ∙ (same_names (own_nets (root_place m)) ∙ (all_own m (all_nets m) ∙ nets_alone m e))

-- commands that make no instance are none
pub no_instances : (d : Design) (ps : List Instance) → Unfolds d ps NoMore → ps ≡ []
no_instances d [] u = refl
no_instances d (p ∷ ps) u = absurd u

one_driver : (m : FileModel) (w : List ℕ) → drivers_of m w ≡ 1 → (drivers_of m w == 1) ≡ true
one_driver m w e = ap (λ n. n == 1) e

-- a model without instances has good nets where each is driven once, and each reset table has its own latch
pub good_alone : (m : FileModel) → m.instances ≡ [] → IsDrivenOnce m → HasResetsOfLatches m → HasGoodNets m NoMore
unfolding unfolded
good_alone m e driven resets =
    let same = homes_alone m e in
    record {
      differ = ap names_differ same ∙ nets_differ m;
      driven =
          ap (list_all (λ w. drivers_of m w == 1)) same
          ∙ all_from_among (λ w. drivers_of m w == 1) (nets_of m) (λ w a. one_driver m w (driven.once w a));
      resets = All-cons (λ p. HasResetsOfLatches p.model) (root_place m) [] resets (All-nil (λ p. HasResetsOfLatches p.model));
    }
