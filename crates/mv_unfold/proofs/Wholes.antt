-- What is told of a whole, and the one model that it is.
use Rattle.std.proofs.Common.{◌≡◌, ◌⊎◌, ◌<◌, Ok, Err, Some, List, [], ◌∷◌, length, refl, ap, arith, ⊎_elim, inl, inr}
use Rattle.std.specs.Prelude.{Result, OnOk, IfErr}
use Rattle.mv_fault.specs.Tells.{TellsFirst, first}
use Rattle.mv_fault.specs.declared.flat.FlatFault.{FlatFault}
use Rattle.mv_fault.specs.declared.flat.FlatFault.TheVariants.{Memory}
use Rattle.mv_design.specs.declared.design.Design.{Design}
use Rattle.mv_design.specs.declared.design.FileModel.{FileModel}
use Rattle.mv_design.specs.Nets.{root_of}
use Rattle.mv_tree.specs.Tree.{Instances, NoMore, More}
use Rattle.mv_tree.specs.Places.{places}
use Rattle.mv_tree.specs.Unfolded.{joined, unfolded}
use Rattle.mv_walk.specs.declared.opened.Opened.{Opened}
use Rattle.mv_walk.specs.Openings.{AreOpened, openings}
use Rattle.mv_unfold.specs.Whole.{HasWholeFault, whole_faults}

-- what holds where there is no fault
pub told_none : {T P : Type 0} (r : Result T FlatFault) (faults : List FlatFault) → TellsFirst Memory r faults → (faults ≡ [] → P) → OnOk r P
told_none (Ok x) faults h p = p h
told_none (Err f) faults h p = tt

-- a fault that is told is the first
pub told_fault : {T : Type 0} (r : Result T FlatFault) (d : Design) (list : List Opened) (h : AreOpened d list) → TellsFirst Memory r (whole_faults (root_of d) h.tree)
    → IfErr r (λ f. (f ≡ Memory) ⊎ HasWholeFault d f)
told_fault (Ok x) d list h t = tt
told_fault (Err f) d list h t =
    ⊎_elim (λ (e : f ≡ Memory). inl e) (λ (e : first (whole_faults (root_of d) h.tree) ≡ Some f). inr (record { tree = h.tree; has = h.has; first = e })) t

-- ---- the one model

pub whole_root : (d : Design) (root : FileModel) (tree : Instances) → [] ≡ openings d 0 1 0 tree → root ≡ unfolded root tree
unfolding unfolded
whole_root d root NoMore e = refl
whole_root d root (More p m inside rest) e = cc

pub whole_joined : (d : Design) (root : FileModel) (tree : Instances) (list : List Opened) → list ≡ openings d 0 1 0 tree → 0 < length list
    → joined root (places root tree) ≡ unfolded root tree
unfolding unfolded
whole_joined d root NoMore list e some = let l : length list ≡ 0 = ap length e in absurd (omega arith)
whole_joined d root (More p m inside rest) list e some = refl

pub no_elements : {X : Type 0} (xs : List X) → length xs ≡ 0 → [] ≡ xs
no_elements [] e = refl
no_elements (x ∷ xs) e = absurd (omega arith)
