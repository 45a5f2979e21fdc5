-- The instances of a design in unfolding order, its root first, with the names that their nets have
-- in the whole. After the description of BLIF-MV by Kukimoto, where a formal that is bound is the
-- net to which it is bound.
use Rattle.std.specs.Prelude.{ℕ, Bool, not, Option, Some, None, List, [], ◌∷◌, ◌++◌, map, filter, codes, if◌then◌else◌}
use Rattle.std.specs.List.{flat_map}
use Rattle.std.specs.Option.{is_some}
use Rattle.mv_base.specs.Firsts.{firsts_by}
use Rattle.mv_base.specs.Names.{same_word}
use Rattle.mv_design.specs.declared.design.Bind.{Bind}
use Rattle.mv_design.specs.declared.design.FileModel.{FileModel}
use Rattle.mv_design.specs.declared.design.Instance.{Instance}
use Rattle.mv_design.specs.ByLine.{by_line}
use Rattle.mv_design.specs.Nets.{Naming, namings}
use Rattle.mv_design.specs.Values.{values_of}
use Rattle.mv_tree.specs.Tree.{Instances, NoMore, More}

-- ---- the nets of a model with instances

-- what an instance's command names of its model: the nets to which formals are bound
abbrev pub instance_naming : Instance → Naming
instance_naming p = record { line = p.line; nets = map (λ b. b.actual) p.binds }

-- what the commands of a model name, its instances among them, by line
unfoldable pub all_namings : FileModel → List Naming
all_namings m = by_line (λ x. x.line) (map instance_naming m.instances) (namings m)

-- the nets of a model, each once, in the order in which it first names them
unfoldable pub all_nets : FileModel → List (List ℕ)
all_nets m = firsts_by same_word (m.inputs ++ (m.outputs ++ flat_map (λ x. x.nets) (all_namings m)))

-- ---- where nets are at home

-- the net to which a formal is bound
abbrev pub actual_of : List Bind → List ℕ → Option (List ℕ)
actual_of [] net = None
actual_of (b ∷ bs) net = if same_word net b.formal then Some b.actual else actual_of bs net

-- the net is a formal that is bound
abbrev pub is_bound : List Bind → List ℕ → Bool
is_bound binds net = is_some (actual_of binds net)

-- an instance, or the root of a design: its model; its bindings; the path of its nets, which is the
-- names of the instances down to it, each with a full stop behind; and of each net the name in the
-- whole, and the names of the values there
pub record Place : Type 0 where
  pub model : FileModel
  pub binds : List Bind
  pub path : List ℕ
  pub home : List ℕ → List ℕ
  pub values : List ℕ → List (List ℕ)

-- the root, whose nets keep their names
abbrev pub root_place : FileModel → Place
root_place m =
    record { model = m; binds = []; path = []; home = λ net. net; values = values_of m.decls }

-- what holds of a net round an instance, for a formal that is bound to it, and else what holds of
-- the net itself
abbrev pub through : {X : Type 0} → (List ℕ → X) → (List ℕ → X) → List Bind → List ℕ → X
through round own binds net = of_actual round own net (actual_of binds net)
  where
    of_actual : {X : Type 0} → (List ℕ → X) → (List ℕ → X) → List ℕ → Option (List ℕ) → X
    of_actual round own net (Some actual) = round actual
    of_actual round own net None = own net

-- the path of the nets of an instance
abbrev pub path_in : List ℕ → List ℕ → List ℕ
path_in path instance = path ++ (instance ++ codes ".")

-- an instance: a formal that is bound is the net round it, and any other net is its own, with the
-- path before its name
abbrev pub place_in : Place → Instance → FileModel → Place
place_in round p m = record {
  model = m;
  binds = p.binds;
  path = path_in round.path p.name;
  home = through round.home (λ net. path_in round.path p.name ++ net) p.binds;
  values = through round.values (values_of m.decls) p.binds;
}

-- the instances inside a place: each stands before those inside it
abbrev pub places_in : Place → Instances → List Place
places_in round NoMore = []
places_in round (More instance model inside rest) = place_in round instance model
    ∷ (places_in (place_in round instance model) inside ++ places_in round rest)

-- the root and all instances
abbrev pub places : FileModel → Instances → List Place
places root tree = root_place root ∷ places_in (root_place root) tree

-- the nets that are at home in a place
abbrev pub own_nets : Place → List (List ℕ)
own_nets p = filter (λ net. not (is_bound p.binds net)) (all_nets p.model)

-- their names in the whole
abbrev pub homes_at : Place → List (List ℕ)
homes_at p = map p.home (own_nets p)

-- the names of all nets, in unfolding order
unfoldable pub homes : List Place → List (List ℕ)
homes ps = flat_map homes_at ps
