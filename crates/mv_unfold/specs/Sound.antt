-- When a design is sound, what it means then, and why one is refused.
use Rattle.std.specs.Prelude.{◌≡◌, ◌⊎◌, ℕ, ◌≤◌, Some, List, [], All}
use Rattle.mv_base.specs.Meaning.{Meaning}
use Rattle.mv_base.specs.declared.limits.TheConstants.{MAX_DEPTH, MAX_INSTANCES}
use Rattle.mv_fault.specs.Tells.{first}
use Rattle.mv_fault.specs.declared.flat.FlatFault.{FlatFault}
use Rattle.mv_fault.specs.declared.flat.FlatFault.TheVariants.{Cycle, ResetReadsLatch, Memory}
use Rattle.mv_graph.specs.Above.{IsAcyclic}
use Rattle.mv_design.specs.declared.design.Design.{Design}
use Rattle.mv_design.specs.declared.design.FileModel.{FileModel}
use Rattle.mv_design.specs.Nets.{root_of}
use Rattle.mv_tree.specs.Tree.{Instances, Unfolds, IsWithinDepth, size_of}
use Rattle.mv_tree.specs.Places.{places, homes}
use Rattle.mv_tree.specs.Unfolded.{unfolded}
use Rattle.mv_tree.specs.Meaning.{of_tree}
use Rattle.mv_tree.specs.Bound.{AreBound}
use Rattle.mv_acyclic.specs.Sound.{IsFirstOnCycle, IsFirstReading, StandsAlone, reads}
use Rattle.mv_walk.specs.Walk.{HasTree, walk_faults}
use Rattle.mv_unfold.specs.Whole.{HasGoodNets, HasShortNames, HasWholeFault, whole_faults}

-- a sound design: its commands make a tree of instances, whose bindings fit; no two nets of the
-- whole have one name, each is driven once, and each reset table has its own latch; no net is above
-- itself, and no latch above a reset value. Of the limits of the program it says nothing
pub record IsSound (d : Design) : Type 0 where
  pub tree : Instances
  pub unfolds : Unfolds d (root_of d).instances tree
  pub bound : AreBound (root_of d) tree
  pub nets : HasGoodNets (root_of d) tree
  pub acyclic : IsAcyclic (reads (unfolded (root_of d) tree))
  pub alone : All (StandsAlone (unfolded (root_of d) tree)) (unfolded (root_of d) tree).resets

-- what a sound design means: what its root with the instances means
abbrev pub of_sound : (d : Design) → IsSound d → Meaning
of_sound d s = of_tree (root_of d) s.tree

-- the one model over all nets that a sound design is
abbrev pub model_of : (d : Design) → IsSound d → FileModel
model_of d s = unfolded (root_of d) s.tree

-- a design whose instances are these is within the limits: none stands too deep, and there are not
-- too many; there are not too many nets, and no name is too long
pub record IsWithinDesignLimits (d : Design) (tree : Instances) : Type 0 where
  pub shallow : IsWithinDepth MAX_DEPTH tree
  pub few : size_of tree ≤ MAX_INSTANCES
  pub short : HasShortNames (root_of d) tree

-- ---- why a design is refused

-- nothing is wrong with the instances, nor with the nets and the reset tables, but for what is
-- above what, and this is the first net on a cycle, in unfolding order
pub record HasCycle (d : Design) (net : List ℕ) : Type 0 where
  pub tree : Instances
  pub has : HasTree d tree
  pub none : whole_faults (root_of d) tree ≡ []
  pub first : IsFirstOnCycle (homes (places (root_of d) tree)) (unfolded (root_of d) tree) net

-- there is no cycle either, and this is the first latch whose reset value has a latch's output
-- above it, and the first such output
pub record HasReadingReset (d : Design) (latch reached : List ℕ) : Type 0 where
  pub tree : Instances
  pub has : HasTree d tree
  pub none : whole_faults (root_of d) tree ≡ []
  pub acyclic : IsAcyclic (reads (unfolded (root_of d) tree))
  pub first : IsFirstReading (unfolded (root_of d) tree) latch reached

-- why a design is refused: the first fault of its instances; where there is none, the first of its
-- nets and reset tables, but for what is above what; where there is none, the first net on a cycle;
-- and else the first reset value with a latch above it. For want of memory any may be
abbrev pub IsFault : Design → FlatFault → Type 0
IsFault d (Cycle net) = HasCycle d net
IsFault d (ResetReadsLatch latch reached) = HasReadingReset d latch reached
IsFault d Memory = Unit {0}
IsFault d f = (first (walk_faults d) ≡ Some f) ⊎ HasWholeFault d f
