-- How the one model over all nets is put together. For private functions.
use Rattle.std.specs.Prelude.{◌≡◌, ℕ, ◌<◌, List, [], ◌++◌, length, slice_index_or}
use Rattle.mv_design.specs.declared.design.Decl.{Decl}
use Rattle.mv_design.specs.declared.design.FileModel.{FileModel}
use Rattle.mv_design.specs.Nets.{no_model}
use Rattle.mv_design.specs.Values.{values_of, declared_of}
use Rattle.mv_unfold.specs.declared.by_name.FirstPlaces.{FirstPlaces}
use Rattle.mv_unfold.specs.ByName.{FindsFirst}

-- a net under a path, with the values that declarations give it
abbrev pub decl_under : List ℕ → List Decl → List ℕ → Decl
decl_under path ds net = record { net = path ++ net; values = values_of ds net }

-- no names
abbrev pub no_places : FirstPlaces
no_places = record { names = []; numbers = [] }

-- the nets that each of these models declares
pub record AreDeclared (ms : List FileModel) (all : List FirstPlaces) : Type 0 where
  pub long : length all ≡ length ms
  pub each : (k : ℕ) → k < length all
      → FindsFirst (slice_index_or all k no_places)
      (declared_of (slice_index_or ms k no_model).decls)
