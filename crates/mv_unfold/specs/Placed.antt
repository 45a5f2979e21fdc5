-- The instances of a walk's list as places: each stands in the place of the instance round it,
-- which comes before it.
use Rattle.std.specs.Prelude.{ℕ, ◌+◌, ◌<◌, ◌≡◌, Some, List, [], ◌∷◌, ◌++◌, length, slice_index_or, slice_get, unwrap_or}
use Rattle.mv_design.specs.declared.design.Design.{Design}
use Rattle.mv_design.specs.declared.design.FileModel.{FileModel}
use Rattle.mv_design.specs.declared.design.Instance.{Instance}
use Rattle.mv_design.specs.Nets.{no_model, root_of}
use Rattle.mv_tree.specs.Places.{Place, root_place, place_in}
use Rattle.mv_walk.specs.declared.opened.Opened.{Opened}
use Rattle.mv_walk.specs.Commands.{place_named}

-- the model with a number
abbrev pub model_at : Design → ℕ → FileModel
model_at d k = slice_index_or d.models k no_model

-- the number of the first model with a name
abbrev pub model_place : List FileModel → List ℕ → ℕ
model_place ms name = unwrap_or (place_named ms name) 0

-- a command that binds nothing
abbrev pub no_instance : Instance
no_instance = record { line = 0; model = []; name = []; binds = [] }

-- the command of a model with a number
abbrev pub instance_at : FileModel → ℕ → Instance
instance_at m k = slice_index_or m.instances k no_instance

-- the place with a number
abbrev pub place_at : List Place → ℕ → Place
place_at ps k = slice_index_or ps k (root_place no_model)

-- the command that makes an instance in one of these places
abbrev pub instance_in : List Place → Opened → Instance
instance_in ps o = instance_at (place_at ps o.round).model o.instance

-- the place of an instance in one of these
abbrev pub opened_place : Design → List Place → Opened → Place
opened_place d ps o = place_in (place_at ps o.round) (instance_in ps o) (model_at d o.model)

-- these places, and behind them those of instances
abbrev pub with_places : Design → List Place → List Opened → List Place
with_places d ps [] = ps
with_places d ps (o ∷ os) = with_places d (ps ++ opened_place d ps o ∷ []) os

-- the root and all instances of a list
unfoldable pub places_by : Design → List Opened → List Place
places_by d list = with_places d (root_place (root_of d) ∷ []) list

-- place n is that of this instance: in one that stands before it, made by one of the commands
-- there, of the model of the design that the command names
pub record IsPlaced (d : Design) (ps : List Place) (n : ℕ) (o : Opened) : Type 0 where
  pub round : o.round < n
  pub model : o.model < length d.models
  pub instance : o.instance < length (place_at ps o.round).model.instances
  pub named : o.model ≡ model_place d.models (instance_in ps o).model
  pub is : place_at ps n ≡ opened_place d ps o

-- the places of a list: first the root, and then those of the instances in order
pub record ArePlaced (d : Design) (list : List Opened) : Type 0 where
  pub long : length (places_by d list) ≡ 1 + length list
  pub root : place_at (places_by d list) 0 ≡ root_place (root_of d)
  pub each : (k : ℕ) (o : Opened) → slice_get list k ≡ Some o
      → IsPlaced d (places_by d list) (1 + k) o
