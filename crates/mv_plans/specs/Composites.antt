-- The literals of one composite: of the table of a net that reads another, with the other's table
-- put in.
use Rattle.std.specs.Prelude.{◌≡◌, ℕ, Option, option_map, List, map}
use Rattle.mv_composite.specs.declared.inner.Inner.{Inner}
use Rattle.mv_composite.specs.Composite.{composed}
use Rattle.mv_composite.specs.Wide.{IsTooWide}
use Rattle.mv_cover.specs.declared.cover.Cover.{Cover}
use Rattle.mv_cover.specs.Covers.{literal_count}
use Rattle.mv_meaning.specs.Rewriting.{IsReader}
use Rattle.mv_net.specs.declared.parts.FlatNet.{FlatNet}
use Rattle.mv_net.specs.Nets.{slot, values_in, table_in, table_literals}

-- the composite of the reader m isn't too wide, and has so many literals
pub record HasCompositeLiterals (nets : List (Option FlatNet)) (inner : Inner) (m count : ℕ)
    : Type 0 where
  pub cover : Cover
  pub reader : IsReader nets inner.net.0 m cover
  pub narrow : IsTooWide (map values_in nets) inner cover → ⊥
  pub counted : count ≡ literal_count (composed (map values_in nets) inner cover).lines

-- the composite of the reader m is too wide
pub record HasWideComposite (nets : List (Option FlatNet)) (inner : Inner) (m : ℕ) : Type 0 where
  pub cover : Cover
  pub reader : IsReader nets inner.net.0 m cover
  pub wide : IsTooWide (map values_in nets) inner cover

-- the literals of the composite of the table of the net at m, and 0 where it has none
unfoldable pub composite_count : List (Option FlatNet) → Inner → ℕ → ℕ
composite_count nets inner m =
    table_literals (option_map (composed (map values_in nets) inner) (table_in (slot nets m)))
