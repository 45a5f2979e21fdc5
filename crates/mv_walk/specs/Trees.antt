-- Trees of instances as far down as the walk looks, and what the laws of the walk say.
use Rattle.std.specs.Prelude.{◌≡◌, ℕ, zero, suc, Option, Some, None, List, [], ◌∷◌}
use Rattle.mv_design.specs.declared.design.Design.{Design}
use Rattle.mv_design.specs.declared.design.FileModel.{FileModel}
use Rattle.mv_design.specs.declared.design.Instance.{Instance}
use Rattle.mv_design.specs.Nets.{root_of}
use Rattle.mv_tree.specs.Tree.{Instances, NoMore, More, model_named}
use Rattle.mv_walk.specs.Walk.{HasTree}

-- the instances of these commands, where `inside` says which are inside an instance of a model
abbrev pub trees : (FileModel → Instances) → Design → List Instance → Instances
trees inside d [] = NoMore
trees inside d (p ∷ ps) = of_model inside p (trees inside d ps) (model_named d.models p.model)
  where
    of_model : (FileModel → Instances) → Instance → Instances → Option FileModel → Instances
    of_model inside p rest (Some m) = More p m (inside m) rest
    of_model inside p rest None = NoMore

-- the instances inside one of a model, down to so many levels
abbrev pub tree_of : ℕ → Design → FileModel → Instances
tree_of zero d m = NoMore
tree_of (suc levels) d m = trees (tree_of levels d) d m.instances

-- a design has some tree of instances
pub record HasSomeTree (d : Design) : Type 0 where
  pub tree : Instances
  pub has : HasTree d tree

-- the root is the model with its name, the first of that name
pub record IsRootNamed (d : Design) : Type 0 where
  pub named : model_named d.models (root_of d).name ≡ Some (root_of d)
