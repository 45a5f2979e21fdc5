-- When a design with instances is sound, and what is wrong where it isn't: the faults of the nets
-- and reset tables of the whole.
use Rattle.std.specs.Prelude.{◌≡◌, ℕ, ◌+◌, ◌≤◌, true, not, ◌==◌, nat_lt, Some, List, [], ◌∷◌, ◌++◌, length, take, All}
use Rattle.std.specs.List.{list_all, flat_map}
use Rattle.mv_base.specs.Names.{among, names_differ}
use Rattle.mv_base.specs.declared.limits.TheConstants.{MAX_FLAT_NETS, MAX_FLAT_NAME_BYTES}
use Rattle.mv_fault.specs.Tells.{when, first}
use Rattle.mv_fault.specs.declared.fault.Which.TheVariants.{Nets}
use Rattle.mv_fault.specs.declared.flat.FlatFault.{FlatFault}
use Rattle.mv_fault.specs.declared.flat.FlatFault.TheVariants.{NameClash, NoLatch, ResetTwice, Limit}
use Rattle.mv_design.specs.declared.design.Design.{Design}
use Rattle.mv_design.specs.declared.design.FileModel.{FileModel}
use Rattle.mv_design.specs.Nets.{root_of, drivers_of, latch_outputs}
use Rattle.mv_tree.specs.Tree.{Instances}
use Rattle.mv_tree.specs.Places.{Place, places, homes}
use Rattle.mv_tree.specs.Unfolded.{unfolded}
use Rattle.mv_acyclic.specs.Sound.{HasResetsOfLatches, long_at, resets_named, twice_at, undriven_at}
use Rattle.mv_walk.specs.Walk.{HasTree}

-- ---- faults

-- the faults of nets with these names, behind others with those: a name is too long; an earlier net
-- has it
abbrev pub flat_name_faults : List (List ℕ) → List (List ℕ) → List FlatFault
flat_name_faults seen [] = []
flat_name_faults seen (w ∷ ws) = long_at w
    ++ (when (among w seen) (NameClash w) ++ flat_name_faults (seen ++ w ∷ []) ws)

-- the faults of the names of all nets, told net by net, of as many as there may be, and then the
-- first net too many
unfoldable pub home_faults : List (List ℕ) → List FlatFault
home_faults ws = flat_name_faults [] (take MAX_FLAT_NETS ws)
    ++ when (nat_lt MAX_FLAT_NETS (length ws)) (Limit Nets (MAX_FLAT_NETS + 1))

-- the faults of reset tables of a place, behind others of those latches: one whose output is no
-- latch of its model, and a second one of a latch
abbrev pub resets_faults : Place → List (List ℕ) → List (List ℕ) → List FlatFault
resets_faults p seen [] = []
resets_faults p seen (w ∷ ws) =
    when (not (among w (latch_outputs p.model))) (NoLatch (p.home w))
    ++ (when (among w seen) (ResetTwice (p.home w)) ++ resets_faults p (seen ++ w ∷ []) ws)

-- the faults of the reset tables of a place
abbrev pub place_faults : Place → List FlatFault
place_faults p = resets_faults p [] (resets_named p.model)

-- the faults of the nets and reset tables of a root with instances, but for what is above what, in
-- the order in which they are told: a limit is passed, or two nets have one name; a net is driven
-- twice; a net isn't driven; a reset table has no latch, or isn't the only one of its latch
unfoldable pub whole_faults : FileModel → Instances → List FlatFault
whole_faults root tree =
    home_faults (homes (places root tree))
    ++ (flat_map (twice_at (unfolded root tree)) (homes (places root tree))
    ++ (flat_map (undriven_at (unfolded root tree)) (homes (places root tree))
    ++ flat_map place_faults (places root tree)))

-- ---- what holds where there are none

-- no two nets of a root with instances have one name, each is driven once, and each reset table is
-- that of a latch of its model, the only one of this latch
pub record HasGoodNets (root : FileModel) (tree : Instances) : Type 0 where
  pub differ : names_differ (homes (places root tree)) ≡ true
  pub driven : list_all (λ w. drivers_of (unfolded root tree) w == 1) (homes (places root tree))
      ≡ true
  pub resets : All (λ p. HasResetsOfLatches p.model) (places root tree)

-- the nets of a root with instances pass no limit: there aren't too many, and no name is too long
pub record HasShortNames (root : FileModel) (tree : Instances) : Type 0 where
  pub few : length (homes (places root tree)) ≤ MAX_FLAT_NETS
  pub short : (net : List ℕ) → among net (homes (places root tree)) ≡ true
      → length net ≤ MAX_FLAT_NAME_BYTES

-- what is wrong with a design whose instances are right: the first fault of its nets and reset
-- tables
pub record HasWholeFault (d : Design) (fault : FlatFault) : Type 0 where
  pub tree : Instances
  pub has : HasTree d tree
  pub first : first (whole_faults (root_of d) tree) ≡ Some fault
