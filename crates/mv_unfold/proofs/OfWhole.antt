-- What the one model of a root and its instances is, where its nets are good: its nets are those of the whole, each of them is
-- driven once, and each reset table has its own latch.
use Rattle.std.proofs.Common.{◌≡◌, ℕ, ◌≤◌, true, List, ◌++◌, All, sym, ◌∙◌, ap, arith}
use Rattle.std.specs.Prelude.{◌==◌, nat_lt, count_by}
use Rattle.std.specs.Cmp.{both_ways}
use Rattle.std.specs.List.{flat_map}
use Rattle.std.proofs.lemmas.Bool.{eqb-true}
use Rattle.std.proofs.lemmas.List.Elements.{All-from_recursion, recursion_from_All}
use Rattle.mv_base.specs.Names.{same_word, among, names_differ}
use Rattle.mv_design.specs.declared.design.Design.{Design}
use Rattle.mv_design.specs.declared.design.FileModel.{FileModel}
use Rattle.mv_design.specs.Nets.{nets_of, nets_driven, drivers, drivers_of, latch_outputs, output_of}
use Rattle.mv_design.specs.Proper.{IsLawful}
use Rattle.mv_tree.specs.Tree.{Instances, NoMore, More, Unfolds}
use Rattle.mv_tree.specs.Places.{root_place, places_in, places, homes}
use Rattle.mv_tree.specs.Unfolded.{joined, unfolded}
use Rattle.mv_tree.specs.Bound.{AreBound, FollowsGrammar, IsWhole, resets_have_latches}
use Rattle.mv_tree.proofs.Each.{each-weaker}
use Rattle.mv_tree.proofs.Grammar.{follows_grammar}
use Rattle.mv_tree.proofs.Inside.{are_named}
use Rattle.mv_tree.proofs.Standing.{all_stand}
use Rattle.mv_tree.proofs.Whole.{joined_among}
use Rattle.std.proofs.lemmas.List.Folds.{list_all-map}
use Rattle.mv_acyclic.specs.Sound.{HasResetsOfLatches, IsDrivenOnce, IsWithinLimits}
use Rattle.mv_acyclic.proofs.Commands.{driver_is_net}
use Rattle.mv_acyclic.proofs.Distinct.{differ_counted, drivers_counted}
use Rattle.mv_acyclic.proofs.Named.{among-nets_of}
use Rattle.mv_acyclic.proofs.Names.{all_among, among_counted, count_of_append}
use Rattle.mv_unfold.specs.Whole.{HasGoodNets, HasShortNames}
use Rattle.mv_unfold.proofs.Alone.{homes_alone, no_instances}
use Rattle.mv_acyclic.proofs.Distinct.{nets_differ, no_more}
use Rattle.mv_unfold.proofs.Resetting.{joined_resets}

-- ---- the nets

driven_in_whole : (root : FileModel) (tree : Instances) → HasGoodNets root tree → (net : List ℕ) → among net (homes (places root tree)) ≡ true
    → drivers_of (unfolded root tree) net ≡ 1
driven_in_whole root tree good net e =
    let m = unfolded root tree in eqb-true (drivers_of m net) 1 (all_among (λ w. drivers_of m w == 1) (homes (places root tree)) net good.driven e)

-- a net of the whole is one of the one model, which names what drives it
home_is_net : (root : FileModel) (tree : Instances) → HasGoodNets root tree → (net : List ℕ) → among net (homes (places root tree)) ≡ true
    → among net (nets_of (unfolded root tree)) ≡ true
home_is_net root tree good net e =
    let m = unfolded root tree in
    driver_is_net m net (among_counted net (drivers m) ∙ ap (nat_lt 0) (driven_in_whole root tree good net e))

-- a net of the one model is one of the whole
net_is_home : (d : Design) (root : FileModel) (tree : Instances) → Unfolds d root.instances tree → AreBound root tree → names_differ (homes (places root tree)) ≡ true
    → (net : List ℕ) → among net (nets_of (unfolded root tree)) ≡ true → among net (homes (places root tree)) ≡ true
unfolding unfolded
net_is_home d root NoMore u bound differ net e = ap (among net) (homes_alone root (no_instances d root.instances u)) ∙ e
net_is_home d root (More instance model inside rest) u bound differ net e =
    let tree = More instance model inside rest in
    let qs = places_in (root_place root) tree in
    let stand = all_stand root tree (are_named d root tree u) bound differ in
    (joined_among root qs stand).each net (sym (among-nets_of net (joined root (places root tree))) ∙ e)

pub same_nets : (d : Design) (root : FileModel) (tree : Instances) → Unfolds d root.instances tree → AreBound root tree → HasGoodNets root tree
    → (net : List ℕ) → among net (homes (places root tree)) ≡ among net (nets_of (unfolded root tree))
same_nets d root tree u bound good net =
    both_ways (among net (homes (places root tree))) (among net (nets_of (unfolded root tree))) (home_is_net root tree good net)
    (net_is_home d root tree u bound good.differ net)

pub driven_once : (d : Design) (root : FileModel) (tree : Instances) → Unfolds d root.instances tree → AreBound root tree → HasGoodNets root tree
    → IsDrivenOnce (unfolded root tree)
driven_once d root tree u bound good =
    record { once = λ net e. driven_in_whole root tree good net (same_nets d root tree u bound good net ∙ e) }

pub within_limits : (d : Design) (root : FileModel) (tree : Instances) → Unfolds d root.instances tree → AreBound root tree → HasGoodNets root tree
    → HasShortNames root tree → IsWithinLimits (unfolded root tree)
within_limits d root tree u bound good short =
    let m = unfolded root tree in
    let same = same_nets d root tree u bound good in
    let few = no_more (nets_of m) (homes (places root tree)) (nets_differ m) (λ w e. same w ∙ e) in
    let most = short.few in
    record { few = omega arith; short = λ net e. short.short net (same net ∙ e) }

-- ---- latches and reset tables

-- the latches of a model whose nets are driven once differ
latches_differ : (m : FileModel) → IsDrivenOnce m → names_differ (latch_outputs m) ≡ true
unfolding drivers
latches_differ m once =
    let tables = flat_map nets_driven m.tables in
    differ_counted (latch_outputs m)
    (λ w.
    let few : count_by (same_word w) (m.inputs ++ (latch_outputs m ++ tables)) ≤ 1 = drivers_counted m once w in
    let a = count_of_append w m.inputs (latch_outputs m ++ tables) in
    let b = count_of_append w (latch_outputs m) tables in
    omega arith)

have_latches : (m : FileModel) → HasResetsOfLatches m → resets_have_latches m ≡ true
have_latches m h = sym (list_all-map (λ w. among w (latch_outputs m)) output_of m.resets) ∙ h.latches

-- a root and its instances are one model
pub is_whole : (d : Design) (root : FileModel) (tree : Instances) → Unfolds d root.instances tree → AreBound root tree → HasGoodNets root tree → IsWhole root tree
is_whole d root tree u bound good =
    let m = unfolded root tree in
    let ps = places root tree in
    record {
      bound = bound;
      differ = good.differ;
      named = λ net e. sym (among-nets_of net m) ∙ home_is_net root tree good net e;
      latches = latches_differ m (driven_once d root tree u bound good);
      resets =
          All-from_recursion (λ p. resets_have_latches p.model ≡ true) ps
          (each-weaker (λ p. HasResetsOfLatches p.model) (λ p. resets_have_latches p.model ≡ true) (λ p h. have_latches p.model h) ps
          (recursion_from_All (λ p. HasResetsOfLatches p.model) ps good.resets));
    }

pub resets_of_whole : (d : Design) (root : FileModel) (tree : Instances) → Unfolds d root.instances tree → All (λ p. IsLawful p.model) (places root tree)
    → AreBound root tree → HasGoodNets root tree → HasResetsOfLatches (unfolded root tree)
unfolding unfolded
resets_of_whole d root NoMore u lawful bound good = (recursion_from_All (λ p. HasResetsOfLatches p.model) (places root NoMore) good.resets).0
resets_of_whole d root (More instance model inside rest) u lawful bound good =
    let tree = More instance model inside rest in
    let ps = places root tree in
    let m = joined root ps in
    joined_resets root ps (recursion_from_All FollowsGrammar ps (follows_grammar d root tree u lawful))
    (recursion_from_All (λ p. HasResetsOfLatches p.model) ps good.resets) (latches_differ m (driven_once d root tree u bound good))
