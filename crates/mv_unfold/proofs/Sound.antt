-- A sound design within the limits has no fault, and only one tree of instances.
use Rattle.std.proofs.Common.{◌≡◌, ◌⊎◌, Some, List, [], ◌∷◌, refl, ◌∙◌, ap, subst, ⊎_elim}
use Rattle.mv_fault.specs.Tells.{first}
use Rattle.mv_fault.specs.declared.flat.FlatFault.{FlatFault}
use Rattle.mv_fault.specs.declared.flat.FlatFault.TheVariants.{Cycle, ResetReadsLatch, Memory}
use Rattle.mv_graph.specs.Above.{IsAbove}
use Rattle.mv_design.specs.declared.design.Design.{Design}
use Rattle.mv_design.specs.Nets.{root_of}
use Rattle.mv_tree.specs.Tree.{Instances}
use Rattle.mv_tree.specs.Unfolded.{unfolded}
use Rattle.mv_acyclic.specs.Sound.{IsFirstReading, reads}
use Rattle.mv_acyclic.proofs.Soundness.{stands_alone}
use Rattle.mv_walk.specs.Walk.{HasTree, walk_faults}
use Rattle.mv_walk.specs.Trees.{IsRootNamed}
use Rattle.mv_walk.proofs.Nothing.{no_fault}
use Rattle.mv_walk.proofs.Unique.{one_tree}
use Rattle.mv_unfold.specs.Sound.{IsSound, IsWithinDesignLimits, IsFault}
use Rattle.mv_unfold.specs.Whole.{HasWholeFault, whole_faults}
use Rattle.mv_unfold.proofs.Faultless.{no_faults}

-- a sound design within the limits has its tree, and no other
sound_tree : (d : Design) (s : IsSound d) → IsWithinDesignLimits d s.tree → HasTree d s.tree
sound_tree d s within = record { unfolds = s.unfolds; bound = s.bound; shallow = within.shallow; few = within.few }

same_tree : (d : Design) (s : IsSound d) (tree : Instances) → HasTree d tree → tree ≡ s.tree
same_tree d s tree h = one_tree d (root_of d).instances tree s.tree h.unfolds s.unfolds

nothing_first : (fs : List FlatFault) (f : FlatFault) → fs ≡ [] → first fs ≡ Some f → ⊥
nothing_first [] f e h = cc
nothing_first (g ∷ gs) f e h = cc

none_told : (d : Design) (f : FlatFault) → IsRootNamed d → (s : IsSound d) → IsWithinDesignLimits d s.tree → (first (walk_faults d) ≡ Some f) ⊎ HasWholeFault d f → ⊥
none_told d f named s within h =
    ⊎_elim (λ (e : first (walk_faults d) ≡ Some f). nothing_first (walk_faults d) f (no_fault d s.tree named (sound_tree d s within)) e)
    (λ (w : HasWholeFault d f).
    nothing_first (whole_faults (root_of d) w.tree) f (ap (whole_faults (root_of d)) (same_tree d s w.tree w.has) ∙ no_faults (root_of d) s.tree s.nets within.short)
    w.first)
    h

-- a design with a fault that isn't want of memory isn't sound, or isn't within the limits
pub fault_excludes : (d : Design) → IsRootNamed d → (s : IsSound d) → IsWithinDesignLimits d s.tree → (f : FlatFault) → IsFault d f → (f ≡ Memory → ⊥) → ⊥
fault_excludes d named s within (Cycle net) h n =
    let P : Instances → Type 0 = λ t. IsAbove (reads (unfolded (root_of d) t)) net net in
    s.acyclic.none net (subst P (same_tree d s h.tree h.has) h.first.cycle)
fault_excludes d named s within (ResetReadsLatch latch reached) h n =
    let P : Instances → Type 0 = λ t. IsFirstReading (unfolded (root_of d) t) latch reached in
    stands_alone (unfolded (root_of d) s.tree) latch reached s.alone (subst P (same_tree d s h.tree h.has) h.first)
fault_excludes d named s within Memory h n = n refl
fault_excludes d named s within f h n = none_told d f named s within h

pub one_sound : (d : Design) (a b : IsSound d) → a.tree ≡ b.tree
one_sound d a b = one_tree d (root_of d).instances a.tree b.tree a.unfolds b.unfolds
