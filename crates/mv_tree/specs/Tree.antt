-- The instances of a design as a tree: below each model the instances that its commands make, and
-- inside each of them those of its own model.
use Rattle.std.specs.Prelude.{◌≡◌, ℕ, zero, suc, ◌+◌, Option, Some, None, List, [], ◌∷◌, if◌then◌else◌}
use Rattle.mv_base.specs.Names.{same_word}
use Rattle.mv_design.specs.declared.design.Design.{Design}
use Rattle.mv_design.specs.declared.design.FileModel.{FileModel}
use Rattle.mv_design.specs.declared.design.Instance.{Instance}

-- instances, each with the command that makes it, its model, and the instances inside it
pub data Instances : Type 0 where
  NoMore : Instances
  More : (instance : Instance) (model : FileModel) (inside rest : Instances) → Instances

-- the model with a name
abbrev pub model_named : List FileModel → List ℕ → Option FileModel
model_named [] name = None
model_named (m ∷ ms) name = if same_word name m.name then Some m else model_named ms name

-- the command makes an instance of this model
pub record Opens (d : Design) (p : Instance) (instance : Instance) (model : FileModel)
    : Type 0 where
  pub is : instance ≡ p
  pub named : model_named d.models p.model ≡ Some model

-- the instances that these commands make in a design. Models that stand in one another have none
abbrev pub Unfolds : Design → List Instance → Instances → Type 0
Unfolds d [] NoMore = Unit {0}
Unfolds d [] (More _ _ _ _) = ⊥
Unfolds d (_ ∷ _) NoMore = ⊥
Unfolds d (p ∷ ps) (More instance model inside rest) = Opens d p instance model
    × Unfolds d model.instances inside × Unfolds d ps rest

-- how many instances there are
abbrev pub size_of : Instances → ℕ
size_of NoMore = 0
size_of (More instance model inside rest) = 1 + size_of inside + size_of rest

-- no instance stands more than so many levels deep
abbrev pub IsWithinDepth : ℕ → Instances → Type 0
IsWithinDepth levels NoMore = Unit {0}
IsWithinDepth zero (More instance model inside rest) = ⊥
IsWithinDepth (suc levels) (More instance model inside rest) = IsWithinDepth levels inside
    × IsWithinDepth (suc levels) rest
