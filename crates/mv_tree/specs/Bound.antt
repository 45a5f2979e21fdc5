-- What has to hold of a tree of instances so that it is one model: bindings fit, no two nets of the
-- whole have one name, each is a net of that model, and each latch and reset table keeps its own.
use Rattle.std.specs.Prelude.{◌≡◌, ℕ, Bool, true, ◌==◌, List, ◌++◌, map, length, All}
use Rattle.std.specs.List.{list_all}
use Rattle.mv_base.specs.Names.{among, names_differ}
use Rattle.mv_design.specs.declared.design.FileModel.{FileModel}
use Rattle.mv_design.specs.declared.design.Instance.{Instance}
use Rattle.mv_design.specs.Nets.{nets_named, latch_outputs, output_of}
use Rattle.mv_design.specs.Values.{count_of}
use Rattle.mv_tree.specs.Tree.{Instances, NoMore, More}
use Rattle.mv_tree.specs.Places.{Place, places, is_bound, homes}
use Rattle.mv_tree.specs.Unfolded.{unfolded}

-- the nets to which something may be bound: the inputs and the outputs
abbrev pub formals_of : FileModel → List (List ℕ)
formals_of m = m.inputs ++ m.outputs

-- the bindings of an instance fit: each binds a formal, to a net of as many values, and each input
-- is bound
pub record IsBound (round : FileModel) (p : Instance) (m : FileModel) : Type 0 where
  pub formals : list_all (λ b. among b.formal (formals_of m)) p.binds ≡ true
  pub counts : list_all (λ b. count_of m.decls b.formal == count_of round.decls b.actual) p.binds
      ≡ true
  pub closed : list_all (is_bound p.binds) m.inputs ≡ true

-- all bindings fit of the instances in a model, and of those inside them
abbrev pub AreBound : FileModel → Instances → Type 0
AreBound round NoMore = Unit {0}
AreBound round (More instance model inside rest) = IsBound round instance model
    × AreBound model inside
    × AreBound round rest

-- what the grammar makes sure of in the command and the model of an instance: no formal is bound
-- twice, and a reset table has one output
pub record FollowsGrammar (p : Place) : Type 0 where
  pub once : names_differ (map (λ b. b.formal) p.binds) ≡ true
  pub single : All (λ t. length t.outputs ≡ 1) p.model.resets

-- each reset table of a model is that of a latch of the model
abbrev pub resets_have_latches : FileModel → Bool
resets_have_latches m = list_all (λ t. among (output_of t) (latch_outputs m)) m.resets

-- a root and its instances are one model
pub record IsWhole (root : FileModel) (tree : Instances) : Type 0 where
  pub bound : AreBound root tree
  pub differ : names_differ (homes (places root tree)) ≡ true
  pub named : (net : List ℕ) → among net (homes (places root tree)) ≡ true
      → among net (nets_named (unfolded root tree)) ≡ true
  pub latches : names_differ (latch_outputs (unfolded root tree)) ≡ true
  pub resets : All (λ p. resets_have_latches p.model ≡ true) (places root tree)
