-- The walk through the instances of a design, in unfolding order, and what is wrong with the
-- commands that make them. Each command is looked at before what is inside its instance, and all
-- commands of an instance before what is inside the first.
use Rattle.std.specs.Prelude.{ℕ, zero, suc, ◌+◌, ◌≤◌, not, ◌==◌, nat_lt, nat_le, Option, Some, None, List, [], ◌∷◌, ◌++◌, length, map}
use Rattle.std.specs.List.{flat_map}
use Rattle.mv_base.specs.Names.{among}
use Rattle.mv_base.specs.declared.limits.TheConstants.{MAX_DEPTH, MAX_INSTANCES}
use Rattle.mv_fault.specs.Tells.{when}
use Rattle.mv_fault.specs.declared.fault.Which.TheVariants.{Depth, Instances}
use Rattle.mv_fault.specs.declared.flat.FlatFault.{FlatFault}
use Rattle.mv_fault.specs.declared.flat.FlatFault.TheVariants.{NoSuchModel, Recursive, NoFormal, PortValues, PortOpen, Limit}
use Rattle.mv_design.specs.declared.design.Bind.{Bind}
use Rattle.mv_design.specs.declared.design.Design.{Design}
use Rattle.mv_design.specs.declared.design.FileModel.{FileModel}
use Rattle.mv_design.specs.declared.design.Instance.{Instance}
use Rattle.mv_design.specs.Nets.{root_of}
use Rattle.mv_design.specs.Values.{count_of}
use Rattle.mv_tree.specs.Tree.{model_named, Unfolds, IsWithinDepth, size_of}
use Rattle.mv_tree.specs.Tree.{Instances as Tree}
use Rattle.mv_tree.specs.Places.{path_in, is_bound}
use Rattle.mv_tree.specs.Bound.{formals_of, AreBound}

-- where the walk is: in an instance, with its model, the names of the models round it and its own,
-- and the path of its nets
pub record Level : Type 0 where
  pub model : FileModel
  pub round : List (List ℕ)
  pub path : List ℕ

-- a command that makes an instance, and where it stands
pub record Visit : Type 0 where
  pub level : Level
  pub instance : Instance

-- the level of the root
abbrev pub root_level : FileModel → Level
root_level m = record { model = m; round = m.name ∷ []; path = [] }

-- the level inside an instance of a model
abbrev pub level_in : Level → Instance → FileModel → Level
level_in l p m = record { model = m; round = m.name ∷ l.round; path = path_in l.path p.name }

-- a command on a level
abbrev pub visit : Level → Instance → Visit
visit l p = record { level = l; instance = p }

-- the commands on a level
abbrev pub visits_at : Level → List Visit
visits_at l = map (visit l) l.model.instances

-- the level inside the instance of a command, if it has a model
abbrev pub levels_in : Design → Level → Instance → List Level
levels_in d l p = of_model l p (model_named d.models p.model)
  where
    of_model : Level → Instance → Option FileModel → List Level
    of_model l p (Some m) = level_in l p m ∷ []
    of_model l p None = []

-- the commands on a level, and then those on the levels inside, down to so many
abbrev pub visits : ℕ → Design → Level → List Visit
visits zero d l = visits_at l
visits (suc levels) d l = visits_at l
    ++ flat_map (λ p. flat_map (visits levels d) (levels_in d l p)) l.model.instances

-- ---- faults

-- what is wrong with a binding: its formal is none; the two nets haven't as many values
abbrev pub bind_faults : Level → List ℕ → FileModel → Bind → List FlatFault
bind_faults l path m b =
    when (not (among b.formal (formals_of m))) (NoFormal (path ++ b.formal))
    ++ when (not (count_of m.decls b.formal == count_of l.model.decls b.actual))
    (PortValues (path ++ b.formal) (l.path ++ b.actual))

-- what is wrong with an input: it isn't bound
abbrev pub open_faults : List Bind → List ℕ → List ℕ → List FlatFault
open_faults binds path net = when (not (is_bound binds net)) (PortOpen (path ++ net))

-- what is wrong with the bindings of an instance
abbrev pub bound_port_faults : Level → Instance → FileModel → List FlatFault
bound_port_faults l p m =
    flat_map (bind_faults l (path_in l.path p.name) m) p.binds
    ++ flat_map (open_faults p.binds (path_in l.path p.name)) m.inputs

-- what is wrong with a command behind so many others: there is no model of that name; it is that of
-- an instance round it; it stands too deep; it is one too many; its bindings don't fit
abbrev pub visit_faults : Design → ℕ → Visit → List FlatFault
visit_faults d count v = of_model d count v.level v.instance (model_named d.models v.instance.model)
  where
    of_model : Design → ℕ → Level → Instance → Option FileModel → List FlatFault
    of_model d count l p None = NoSuchModel p.model ∷ []
    of_model d count l p (Some m) =
        when (among p.model l.round) (Recursive p.model)
        ++ (when (nat_lt MAX_DEPTH (length l.round)) (Limit Depth (MAX_DEPTH + 1))
        ++ (when (nat_le MAX_INSTANCES count) (Limit Instances (MAX_INSTANCES + 1))
        ++ bound_port_faults l p m))

-- what is wrong with commands, behind so many others
abbrev pub visits_faults : Design → ℕ → List Visit → List FlatFault
visits_faults d count [] = []
visits_faults d count (v ∷ vs) = visit_faults d count v ++ visits_faults d (suc count) vs

-- what is wrong with the instances of a design. One level more than there may be is looked at, and
-- no further: there the first command is a fault
unfoldable pub walk_faults : Design → List FlatFault
walk_faults d = visits_faults d 0 (visits MAX_DEPTH d (root_level (root_of d)))

-- a design has this tree of instances; their bindings fit, none stands too deep, and there aren't
-- too many
pub record HasTree (d : Design) (tree : Tree) : Type 0 where
  pub unfolds : Unfolds d (root_of d).instances tree
  pub bound : AreBound (root_of d) tree
  pub shallow : IsWithinDepth MAX_DEPTH tree
  pub few : size_of tree ≤ MAX_INSTANCES
