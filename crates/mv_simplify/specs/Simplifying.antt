-- On the way through a `simplify`: a visit, and a table that is to be taken. For private functions.
use Rattle.std.specs.Prelude.{◌≡◌, ℕ, ◌≤◌, Some}
use Rattle.mv_base.specs.declared.limits.TheConstants.{MAX_WINDOW_STEPS}
use Rattle.mv_cover.specs.declared.cover.Cover.{Cover}
use Rattle.mv_flex.specs.declared.flexibility.Flexibility.{Flexibility}
use Rattle.mv_flex.specs.declared.stop.FlexStop.{FlexStop}
use Rattle.mv_flex.specs.declared.stop.FlexStop.TheVariants.{Window as IsWide, Nodes as NoNodes, Memory}
use Rattle.mv_flex.specs.Flex.{TooWide}
use Rattle.mv_flex.specs.Flexibilities.{IsFlex}
use Rattle.mv_entry.specs.declared.note.Why.TheVariants.{Window as window_note, Nodes as nodes_note}
use Rattle.mv_meaning.specs.Narrowing.{AreTotalBelow}
use Rattle.mv_net.specs.declared.parts.NetParts.{NetParts}
use Rattle.mv_net.specs.declared.window.Window.{Window}
use Rattle.mv_net.specs.Nets.{slot, table_in}
use Rattle.mv_net.specs.Window.{IsWindow}
use Rattle.mv_pass.specs.Courses.{Course}
use Rattle.mv_simplify.specs.declared.asked.Asked.{Asked}
use Rattle.mv_simplify.specs.Simplifies.{KeepsFor, SimplifiesNet}
use Rattle.mv_tight.specs.Tight.{IsNewTight}

-- ---- what is asked

-- the windows go no more steps than they may
pub record IsWithin (asked : Asked) : Type 0 where
  pub down : asked.down ≤ MAX_WINDOW_STEPS
  pub up : asked.up ≤ MAX_WINDOW_STEPS

-- a visit as it is asked
abbrev pub Visit : Asked → ℕ → Course
Visit asked n = SimplifiesNet asked.terms asked.down asked.up n

-- ---- a visit

-- why a table stays, by what no flexibility told, or one told nothing for; want of memory says
-- nothing
abbrev pub KeepsBy : Asked → NetParts → ℕ → FlexStop → Type 0
KeepsBy asked net n (IsWide levels) =
    KeepsFor asked.terms.budget asked.down asked.up net n window_note
KeepsBy asked net n (NoNodes cap) =
    KeepsFor asked.terms.budget asked.down asked.up net n nodes_note
KeepsBy asked net n Memory = Unit {0}

-- the new table is the one of the net n made tight, by the flexibility in its window
pub record IsToTake (asked : Asked) (net : NetParts) (n : ℕ) (new : Cover)
    (flexibility : Flexibility) : Type 0 where
  pub window : Window
  pub is : IsWindow net n asked.down asked.up window
  pub narrow : TooWide net window → ⊥
  pub flex : IsFlex net window n asked.terms.budget flexibility
  pub below : AreTotalBelow net.nets n
  pub table : Cover
  pub table_is : table_in (slot net.nets n) ≡ Some table
  pub made : IsNewTight net.nets window n table new
